-- Numbers that are all empty: the walks over them; sets and boxes that hold nothing are valid. Assumes nothing.
use mathlib.Core.Path.{◌≡◌, refl, sym, ap, ◌∙◌}
use mathlib.Core.Bool.{Bool, true, ◌&&◌, and_assoc, and_comm}
use mathlib.Core.List.{List, [], ◌∷◌, ◌++◌}
use Prim.Native.Nat.{ℕ, zero, suc, ◌+◌, ◌*◌, ◌<◌}
use native.Mathlib.Omega.{arith}
use lib.Dec.{eqb}
use lib.ListN.{get_or, length}
use borrow.Author.Tests.{eq-eqb, eqb-true}
use denote.Param.Members.{Mut}
use denote.Ref.{Bor}
use Rattle.std.specs.Fn.{Called}
use Rattle.std.specs.Iterator.{Drains}
use Rattle.std.specs.List.{FoldsTo, list_all}
use Rattle.std.proofs.Common.{Iter}
use Rattle.std.proofs.lemmas.Fn.{fold_over, fronts, slice_gives}
use Rattle.lists.specs.Part.{part}
use Rattle.lists.proofs.Parts.{part_at, part_limit}
use Rattle.lists.proofs.Tests.{both, both_pass}
use Rattle.plan.specs.declared.Plan.{Plan}
use Rattle.plan.specs.Sums.{all_below}
use Rattle.plan.proofs.Sums.{below_all}
use Rattle.cache.specs.Lines.{set_index, ways_per_set}
use Rattle.state.specs.TableValidity.{all_empty, box_valid, set_valid, ways_valid}

-- ---- the library's walks

-- a walk that stops at the first number that is not 0
pub all_zero : (list : List ℕ) → list_all (λ number. eqb number 0) list ≡ all_empty list
unfolding all_empty
all_zero [] = refl
all_zero (number ∷ rest) = ap (λ (others : Bool). eqb number 0 && others) (all_zero rest)

-- one number more is seen, by a walk that keeps whether all so far were empty
empty_more :
    (seen : List ℕ) (none : Bool) (number : ℕ)
    → none ≡ all_empty seen
    → none && eqb number 0 ≡ all_empty (seen ++ (number ∷ []))
unfolding all_empty
empty_more [] none number is = rw is (and_comm true (eqb number 0))
empty_more (first ∷ seen) none number is =
    rw is
    (and_assoc (eqb first 0) (all_empty seen) (eqb number 0)
    ∙ ap (λ (others : Bool). eqb first 0 && others) (empty_more seen (all_empty seen) number refl))

-- a fold that keeps it answers whether all are empty
pub fold_empty :
    {F : Type 0} (g : Mut F (Bool × (Bor ℕ × Unit {0})) Bool) (f : F) (s : Iter ℕ) (answer : Bool)
    → ((none : Bool) (number : Bor ℕ) (more : Bool) (f' : F)
    → Called g f (none, (number, tt)) more f'
    → (more ≡ (none && eqb number.now 0)) × (f' ≡ f))
    → (xs : List (Bor ℕ)) × (f' : F) × Drains fronts s xs
    × FoldsTo {P = F × Bool} (λ p x q. Called g p.0 (p.1, (x, tt)) q.1 q.0) (f, true) xs (f', answer)
    → answer ≡ all_empty s.rest.now
unfolding all_empty
fold_empty g f s answer acts ran =
    fold_over fronts (λ number. number.now) g (λ seen none. none ≡ all_empty seen) f
    (λ seen none number more f' before called.
    let did = acts none number more f' called in (did.0 ∙ empty_more seen none number.now before, did.1))
    s s.rest.now true answer (slice_gives s) refl ran

-- ---- the numbers of an empty list

-- the first of empty numbers is 0, and the others are empty
pub empty_first : (way : ℕ) (ways : List ℕ) → all_empty (way ∷ ways) ≡ true
    → (eqb way 0 ≡ true) × (all_empty ways ≡ true)
unfolding all_empty
empty_first way ways empty = both (eqb way 0) (all_empty ways) empty

-- each of empty numbers is 0
empty_each : (list : List ℕ) (index : ℕ) → all_empty list ≡ true → get_or list index 0 ≡ 0
empty_each [] index empty = refl
empty_each (number ∷ rest) zero empty = eqb-true number 0 (empty_first number rest empty).0
empty_each (number ∷ rest) (suc index) empty =
    empty_each rest index (empty_first number rest empty).1

-- ways whose numbers are all 0 are empty
empty_cells : (ways : List ℕ) → ((cell : ℕ) → cell < length ways → get_or ways cell 0 ≡ 0)
    → all_empty ways ≡ true
unfolding all_empty
empty_cells [] zeros = refl
empty_cells (way ∷ ways) zeros =
    both_pass (eqb way 0) (all_empty ways) (eq-eqb way 0 (zeros 0 (omega arith)))
    (empty_cells ways (λ cell below. zeros (suc cell) (omega arith)))

-- ---- what holds nothing is valid

-- a set of empty ways is valid
pub empty_valid : (set : ℕ) (ways : List ℕ) → all_empty ways ≡ true → ways_valid set ways ≡ true
unfolding ways_valid
empty_valid set [] empty = refl
empty_valid set (way ∷ ways) empty =
    let parts = empty_first way ways empty in rw parts.0 parts.1

-- a set of the table whose numbers are all 0 is valid
pub zero_set :
    (cache : List ℕ) (set : ℕ)
    → ((way : ℕ) → way < ways_per_set → get_or cache (set_index set + way) 0 ≡ 0)
    → set_valid cache set ≡ true
unfolding set_valid
zero_set cache set zeros =
    empty_valid set _
    (empty_cells (part (set_index set) ways_per_set cache)
    (λ cell inside.
    let short = part_limit (set_index set) ways_per_set cache in
    part_at (set_index set) ways_per_set cell cache (omega arith) ∙ zeros cell (omega arith)))

-- the sets of a block, `count` sets from `first` on, are valid where the block is empty
pub empty_block :
    (cache : List ℕ) (first count : ℕ)
    → all_empty (part (set_index first) (ways_per_set * count) cache) ≡ true
    → all_below (λ k. set_valid cache (first + k)) count ≡ true
empty_block cache first count empty =
    below_all _ count (λ k below. zero_set cache (first + k) (zero_way k below))
  where
    zero_way : (k : ℕ) → k < count → (way : ℕ) → way < ways_per_set
        → get_or cache (set_index (first + k) + way) 0 ≡ 0
    zero_way k below way inside =
        let from = set_index first in
        let numbers = ways_per_set * count in
        let behind = ways_per_set * k + way in
        let same_index : set_index (first + k) + way ≡ from + behind = omega arith in
        ap (λ (index : ℕ). get_or cache index 0) same_index
        ∙ sym (part_at from numbers behind cache (omega arith))
        ∙ empty_each (part from numbers cache) behind empty

-- empty boxes are valid, whatever the rights
pub empty_boxes_lem : (plan : Plan) (boxes : List ℕ) (count : ℕ) → all_empty boxes ≡ true
    → all_below (box_valid plan boxes) count ≡ true
unfolding box_valid
empty_boxes_lem plan boxes count empty =
    below_all _ count (λ index below. rw (empty_each boxes index empty) refl)
