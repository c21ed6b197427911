-- `fetch` meets its contract: the index is within the store below position 256. Assumes nothing.
use borrow.Author.Tests.{lt-ltb}
use Rattle.script.specs.Fetch.{fetch_of}
use Rattle.script.proofs.fetch.Goals as goal

pub returns : goal.returns
unfolding fetch_of
returns c = simp (lt-ltb _ _ c.requires.2, ← c.decode.ensures)
