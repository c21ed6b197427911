-- `engine::log_query::log_refusal` meets its contract. Assumes nothing.
use Rattle.engine.specs.LogQuery.{log_status_of}
use Rattle.engine.proofs.log_query.log_refusal.Goals as goal

pub returns : goal.returns
unfolding log_status_of
returns c = c.check_log.ensures
