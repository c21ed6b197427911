-- `state::table_validity::set_valid` meets its contract. Assumes nothing.
use mathlib.Core.Path.{◌∙◌, ap}
use Rattle.cache.specs.Lines.{set_index, ways_per_set}
use Rattle.state.specs.TableValidity.{set_valid, ways_valid}
use Rattle.state.proofs.TableLaws.{lent_part}
use Rattle.state.proofs.table_validity.set_valid.Goals as goal

pub returns : goal.returns
unfolding set_valid
returns c =
    c.ways_valid.ensures
    ∙ ap (ways_valid _) (lent_part (set_index c.args.set) ways_per_set _)
