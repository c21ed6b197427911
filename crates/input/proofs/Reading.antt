-- What a reader gave, at the front of a buffer that another read goes into the rest of. Assumes nothing.
use Rattle.std.proofs.Common.{◌≡◌, ◌+◌, ◌≤◌, ◌∙◌, ◌++◌, List, Option, ap, le_refl, length, length-take-le, subst, sym, take, ℕ}
use borrow.Rule.Slice.PartMut.{post_of, put_mid}
use lib.Seq.{take-append-add, take-append-le}
use Rattle.std.specs.Io.KnownBytes.{Consumes, Keeps}
use Rattle.std.proofs.KnownBytes.{Consumes-kept, Consumes-trans}
use Rattle.std.proofs.lemmas.Slice.{take-put_mid_below}

module _ (count room : ℕ) (old read : List ℕ) (within : count ≤ length old) where
  -- what a read puts into the rest of a buffer stands right behind what was read before
  take-put_mid_more : (more : ℕ) → more ≤ length read → take (count + more) (put_mid count room old read) ≡ take count old ++ take more read
  take-put_mid_more more fits =
      let before = take count old in
      ap (λ n. take (n + more) (put_mid count room old read)) (sym (length-take-le count old within))
      ∙ take-append-add before (read ++ post_of count room old) more
      ∙ ap (λ l. before ++ l) (take-append-le more read (post_of count room old) fits)

  -- what a reader gave by then is what it had given, and then what this read took
  pub Consumes-read : (a b c : Option (List ℕ)) (more next : ℕ) → more ≤ length read → next ≡ count + more → Consumes a b (take count old) → Consumes b c (take more read)
      → Consumes a c (take next (put_mid count room old read))
  Consumes-read a b c more next fits is before this =
      subst (λ n. Consumes a c (take n (put_mid count room old read))) (sym is)
      (subst (Consumes a c) (sym (take-put_mid_more more fits)) (Consumes-trans a b c _ _ before this))

  -- and after a read that failed it is what it had given
  pub Consumes-failed : (a b c : Option (List ℕ)) (next : ℕ) → next ≡ count → Consumes a b (take count old) → Keeps b c → Consumes a c (take next (put_mid count room old read))
  Consumes-failed a b c next is before this =
      subst (λ n. Consumes a c (take n (put_mid count room old read))) (sym is)
      (subst (Consumes a c) (sym (take-put_mid_below count room old read count (le_refl count) within)) (Consumes-kept a b c _ before this))
