-- `engine::checks::is_part` meets its contract. Assumes nothing.
use Rattle.engine.proofs.Verdicts.{divided}
use Rattle.engine.proofs.checks.is_part.Goals as goal

pub returns : goal.returns
returns c = divided c.args.length c.args.records
