-- Where records go: places within a log, and what a stored record leaves of its length. Assumes nothing.
use Rattle.std.specs.Prelude.{Option, Some, None}
use Prim.Native.Nat.{ℕ, suc, ◌+◌, ◌*◌, ◌≤◌, ◌<◌}
use mathlib.Core.Bool.{Bool, true, false, cond}
use mathlib.Core.List.{List}
use mathlib.Core.Path.{◌≡◌, refl, subst}
use native.Mathlib.Nat.{mul-le-mul_left, mul-suc}
use native.Mathlib.Omega.{arith}
use lib.Dec.{eqb}
use lib.ListN.{length}
use lib.Seq.{length-sets}
use borrow.Author.Tests.{eq-eqb, ne_eqb}
use Rattle.records.specs.declared.Observation.{Observation}
use Rattle.records.specs.Records.{in_parts, only_of, place_end, record_bytes, record_size, stored_at}

-- fewer records end sooner
pub ends_sooner : (place : Option ℕ) (fewer more : ℕ) → fewer ≤ more → place_end place fewer ≤ place_end place more
ends_sooner (Some first) fewer more h = omega arith
ends_sooner None fewer more h = omega arith

-- where a place's records end that go somewhere
pub from_ends : (place : Option ℕ) (first count size : ℕ) → place ≡ Some first → place_end place count ≤ size
    → record_size * (first + count) ≤ size
from_ends place first count size is fits = subst (λ (p : Option ℕ). place_end p count ≤ size) is fits

-- a declared domain's part lies within the log
pub part_ends : (quota domains domain size : ℕ) → domain < domains → record_size * (quota * domains) ≤ size
    → place_end (in_parts quota domain) quota ≤ size
part_ends quota domains domain size below fits =
    let parts : quota * suc domain ≤ quota * domains = mul-le-mul_left quota below in
    let one : quota * suc domain ≡ quota * domain + quota = mul-suc quota domain in
    omega arith

-- so does the part of a buffer for one domain, whosever records are stored
pub kept_ends : (quota named domain size : ℕ) → record_size * quota ≤ size → place_end (only_of named domain) quota ≤ size
unfolding only_of
kept_ends quota named domain size fits = go (eqb domain named)
  where
    go : (same : Bool) → place_end (cond same (Some 0) None) quota ≤ size
    go true = omega arith
    go false = omega arith

-- the named domain's records, and another's
pub kept_here : (named : ℕ) → only_of named named ≡ Some 0
unfolding only_of
kept_here named = rw (eq-eqb named named refl) refl

pub kept_elsewhere : (named domain : ℕ) → (domain ≡ named → ⊥) → only_of named domain ≡ None
unfolding only_of
kept_elsewhere named domain other = rw (ne_eqb domain named other) refl

-- a stored record leaves the log's length
pub stored_length : (place : Option ℕ) (number : ℕ) (seen : Observation) (clock : ℕ) (log : List ℕ)
    → length (stored_at place number seen clock log) ≡ length log
unfolding stored_at
stored_length (Some first) number seen clock log =
    length-sets log (record_size * (first + number)) (record_bytes seen clock)
stored_length None number seen clock log = refl
