-- `decode` meets its contract: the three parts are the definition's, and each fits what it is cast to. Assumes nothing.
use Rattle.script.specs.Fetch.{decode_of}
use Rattle.script.proofs.decode.Goals as goal

pub returns : goal.returns
unfolding decode_of
returns c = simp (← c.op_of.ensures)
