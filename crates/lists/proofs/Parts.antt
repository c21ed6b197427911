-- Laws on a part of a table and on a table with a part rewritten. Assumes nothing.
use Prim.Native.Nat.{ℕ, zero, suc, ◌+◌, ◌-◌, ◌≤◌, ◌<◌, min}
use mathlib.Core.Path.{◌≡◌, refl, sym, ap, subst, ◌∙◌}
use mathlib.Core.List.{List, [], ◌∷◌, ◌++◌}
use native.Mathlib.Decide.{ℕ_discrete}
use native.Mathlib.Nat.{add-suc, not-suc-le-zero}
use native.Mathlib.Numerals.{add-one}
use native.Mathlib.Omega.{arith}
use lib.ListN.{drop, get_or, length, set, take}
use lib.ListN.{length-append, length-drop, length-set, length-take, take-append-drop, get_or-append}
use lib.Seq.{drop_at, drop-cons, drop-set-lt, ext_get_or, get_or-append-add, get_or-drop, get_or-set_other, get_or-set_same}
use lib.Seq.{get_or-take, length-take-le, sets, take_at}
use Rattle.lists.specs.Part.{part, splice}

-- a part has at most as many numbers as are asked for
pub part_limit : (first count : ℕ) (table : List ℕ) → length (part first count table) ≤ count
unfolding part
part_limit first count table = simp length-take (omega arith)

-- a part within the table has as many numbers as are asked for
pub part_length :
    (first count : ℕ) (table : List ℕ) → first + count ≤ length table → length (part first count table) ≡ count
unfolding part
part_length first count table fits = simp (length-take, length-drop) (omega arith)

-- a part is its first number, then the part that begins one index on
pub part_next :
    (first count : ℕ) (table : List ℕ)
    → first < length table
    → 0 < count
    → part first count table ≡ get_or table first 0 ∷ part (first + 1) (count - 1) table
unfolding part
part_next first zero table within some = absurd (not-suc-le-zero some)
part_next first (suc count) table within some =
    let fewer : suc count - 1 ≡ count = omega arith in
    rw (fewer, add-one first, drop-cons table first 0 within)

-- a table whose part is rewritten by as many numbers keeps its length
pub splice_length :
    (first count : ℕ) (fresh table : List ℕ)
    → length fresh ≡ length (part first count table)
    → length (splice first count fresh table) ≡ length table
unfolding part splice
splice_length first count fresh table same =
    let taken : length fresh ≡ length (take count (drop first table)) = same in
    simp (length-append, taken, length-take, length-drop) (omega arith)

-- a table whose part is rewritten by that part itself is the table
pub splice_part : (first count : ℕ) (table : List ℕ) → splice first count (part first count table) table ≡ table
unfolding part splice
splice_part first count table = rw (take-append-drop count, take-append-drop first)

-- the numbers of a part are the table's, from its first index on
pub part_at :
    (first count index : ℕ) (table : List ℕ)
    → index < count
    → get_or (part first count table) index 0 ≡ get_or table (first + index) 0
unfolding part
part_at first count index table within = rw (get_or-take count (drop first table) index 0 within, get_or-drop)

module _ (first count : ℕ) (fresh table : List ℕ) (begins : first ≤ length table) where
  front : length (take first table) ≡ first
  front = length-take-le first table begins

  -- the rewritten part is what was put there
  pub part_splice : length fresh ≡ count → part first count (splice first count fresh table) ≡ fresh
  unfolding part splice
  part_splice many =
      rw (
        drop_at (take first table) (fresh ++ drop count (drop first table)) first front,
        take_at fresh (drop count (drop first table)) count many,
      )

  -- an index from the part's first on, in what was put there and what follows
  in_splice :
      (index : ℕ)
      → get_or (splice first count fresh table) (first + index) 0 ≡ get_or (fresh ++ drop count (drop first table)) index 0
  unfolding splice
  in_splice index =
      let put = fresh ++ drop count (drop first table) in
      subst (λ (n : ℕ). get_or (take first table ++ put) (n + index) 0 ≡ get_or put index 0) front
      (get_or-append-add (take first table) put index 0)

  -- an index of the rewritten part
  pub splice_within :
      (index : ℕ)
      → index < length fresh
      → get_or (splice first count fresh table) (first + index) 0 ≡ get_or fresh index 0
  splice_within index within =
      in_splice index ∙ get_or-append fresh (drop count (drop first table)) 0 index within

  -- an index before it
  pub splice_before : (index : ℕ) → index < first → get_or (splice first count fresh table) index 0 ≡ get_or table index 0
  unfolding splice
  splice_before index before =
      get_or-append (take first table) (fresh ++ drop count (drop first table)) 0 index (omega (arith, front))
      ∙ get_or-take first table index 0 before

  rest_after :
      (more : ℕ)
      → length fresh ≡ count
      → get_or (splice first count fresh table) (first + (count + more)) 0 ≡ get_or table (first + (count + more)) 0
  rest_after more many =
      let rest = drop count (drop first table) in
      in_splice (count + more)
      ∙ subst (λ (n : ℕ). get_or (fresh ++ rest) (n + more) 0 ≡ get_or rest more 0) many (get_or-append-add fresh rest more 0)
      ∙ get_or-drop count (drop first table) more 0
      ∙ get_or-drop first table (count + more) 0

  -- an index after it
  pub splice_after :
      (index : ℕ)
      → length fresh ≡ count
      → first + count ≤ index
      → get_or (splice first count fresh table) index 0 ≡ get_or table index 0
  splice_after index many after =
      let whole : first + (count + (index - (first + count))) ≡ index = omega arith in
      subst (λ (n : ℕ). get_or (splice first count fresh table) n 0 ≡ get_or table n 0) whole
      (rest_after (index - (first + count)) many)

-- tables whose numbers are equal there have equal parts
pub part_same :
    (first count : ℕ) (one other : List ℕ)
    → first + count ≤ length one
    → first + count ≤ length other
    → ((index : ℕ) → index < count → get_or one (first + index) 0 ≡ get_or other (first + index) 0)
    → part first count one ≡ part first count other
part_same first count one other fits fits-other same =
    let long = part_length first count one fits in
    ext_get_or 0 _ _ (long ∙ sym (part_length first count other fits-other))
    (λ index inside.
    part_at first count index one (omega arith)
    ∙ same index (omega arith)
    ∙ sym (part_at first count index other (omega arith)))

-- a store before a part leaves it
pub part_stored_before :
    (first count : ℕ) (table : List ℕ) (index number : ℕ)
    → index < first
    → part first count (set table index number) ≡ part first count table
unfolding part
part_stored_before first count table index number before = ap (take count) (drop-set-lt first table index number before)

-- a store within a part is a store into it
pub part_stored_within :
    (first count : ℕ) (table : List ℕ) (index number : ℕ)
    → index < count
    → part first count (set table (first + index) number) ≡ set (part first count table) index number
unfolding part
part_stored_within first count table index number within =
    ext_get_or 0 _ _ (simp (length-take, length-drop, length-set))
    (λ at below. here at (simp (length-take, length-drop, length-set) at below) (ℕ_discrete at index))
  where
    here : (at : ℕ) → at < min count (length table - first) → Dec (at ≡ index)
        → get_or (take count (drop first (set table (first + index) number))) at 0
        ≡ get_or (set (take count (drop first table)) index number) at 0
    here at below (yes same) =
        let short : at < count = omega arith in
        let inside : first + index < length table = omega arith in
        let inside' : index < length (take count (drop first table)) = simp (length-take, length-drop) (omega arith) in
        get_or-take count (drop first (set table (first + index) number)) at 0 short
        ∙ get_or-drop first (set table (first + index) number) at 0
        ∙ ap (λ (n : ℕ). get_or (set table (first + index) number) (first + n) 0) same
        ∙ get_or-set_same table (first + index) number 0 inside
        ∙ sym (get_or-set_same (take count (drop first table)) index number 0 inside')
        ∙ ap (λ (n : ℕ). get_or (set (take count (drop first table)) index number) n 0) (sym same)
    here at below (no other) =
        let short : at < count = omega arith in
        let apart : first + at ≡ first + index → ⊥ = λ e. other (omega arith) in
        get_or-take count (drop first (set table (first + index) number)) at 0 short
        ∙ get_or-drop first (set table (first + index) number) at 0
        ∙ get_or-set_other table (first + index) (first + at) number 0 apart
        ∙ sym (get_or-drop first table at 0)
        ∙ sym (get_or-take count (drop first table) at 0 short)
        ∙ sym (get_or-set_other (take count (drop first table)) index at number 0 other)

-- and so is a run of stores
pub part_sets_within :
    (first count index : ℕ) (numbers table : List ℕ)
    → index + length numbers ≤ count
    → part first count (sets table (first + index) numbers) ≡ sets (part first count table) index numbers
part_sets_within first count index [] table within = refl
part_sets_within first count index (number ∷ numbers) table within =
    ap (λ (n : ℕ). part first count (sets (set table (first + index) number) n numbers)) (sym (add-suc first index))
    ∙ part_sets_within first count (suc index) numbers (set table (first + index) number) (omega arith)
    ∙ ap (λ (t : List ℕ). sets t (suc index) numbers) (part_stored_within first count table index number (omega arith))
