-- What L1 and the kernel's sets hold at a window's start: nothing in the run's first window, and the entry line, clean, in every other.
-- Assumes nothing.
use Prim.Native.Nat.{ℕ, ◌+◌, ◌<◌}
use mathlib.Core.Bool.{true, false}
use mathlib.Core.List.{List}
use mathlib.Core.Path.{◌≡◌, refl}
use native.Mathlib.Omega.{arith}
use lib.ListN.{get_or}
use borrow.Author.Tests.{lt-ltb, ne_eqb}
use Rattle.lists.proofs.Tests.{both_pass}
use Rattle.plan.specs.declared.Plan.{Plan}
use Rattle.plan.specs.Windows.{windows_total}
use Rattle.cache.specs.Lines.{kernel_entries, kernel_index, l1_length}
use Rattle.state.specs.World.{World}
use Rattle.machine.specs.WindowStart.{HoldsStart, kernel_at_start, l1_at_start, touched_before}
use Rattle.lateness.proofs.Indices.{entry_index}
use Rattle.lateness.proofs.Windows.{entry_number}

-- nothing
pub record Untouched (table : List ℕ) : Type 0 where
  pub l1 : (index : ℕ) → index < l1_length → get_or table index 0 ≡ 0
  pub kernel : (index : ℕ) → index < kernel_entries → get_or table (kernel_index + index) 0 ≡ 0

-- the entry line alone
pub record Touched (table : List ℕ) : Type 0 where
  pub entry : get_or table entry_index 0 ≡ entry_number
  pub others : (index : ℕ) → index < l1_length → (index ≡ entry_index → ⊥) → get_or table index 0 ≡ 0
  pub front : get_or table kernel_index 0 ≡ entry_number
  pub behind : (index : ℕ) → 0 < index → index < kernel_entries → get_or table (kernel_index + index) 0 ≡ 0

module _ (plan : Plan) (world : World) (holds : HoldsStart plan world) where
  pub starts_untouched : touched_before plan world.state.windows ≡ false → Untouched world.cache
  unfolding l1_at_start kernel_at_start
  starts_untouched none =
      record {
        l1 = λ index below. rw none at (holds.l1 index below);
        kernel = λ index below. rw none at (holds.kernel index below);
      }

  pub starts_touched : touched_before plan world.state.windows ≡ true → Touched world.cache
  unfolding l1_at_start kernel_at_start
  starts_touched before =
      record {
        entry = rw before at (holds.l1 entry_index (omega arith));
        others = λ index below differs. rw (before, ne_eqb index entry_index differs) at (holds.l1 index below);
        front = rw before at (holds.kernel 0 (omega arith));
        behind = λ index some below. rw (before, ne_eqb index 0 (λ none. omega arith)) at (holds.kernel index below);
      }

-- ---- which windows have it

pub first_untouched : (plan : Plan) (window : ℕ) → window ≡ 0 → touched_before plan window ≡ false
unfolding touched_before
first_untouched plan window first = rw first refl

pub later_touched : (plan : Plan) (window : ℕ) → (window ≡ 0 → ⊥) → window < windows_total plan → touched_before plan window ≡ true
unfolding touched_before
later_touched plan window later within =
    both_pass _ _ (lt-ltb 0 window (omega arith)) (lt-ltb window (windows_total plan) within)
