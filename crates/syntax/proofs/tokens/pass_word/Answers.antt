-- `syntax::tokens::pass_word` meets its contract. Assumes nothing.
use Rattle.lists.specs.Part.{part}
use Rattle.syntax.specs.Tokens.{is_word, pass_word}
use Rattle.std.proofs.lemmas.Result.{err_from_is_err_and}
use Rattle.syntax.proofs.WordDue.{word_bytes, word_found, word_refused}
use Rattle.syntax.proofs.tokens.pass_word.Goals as goal

pub returns-in_err-found : goal.returns-in_err-found
unfolding pass_word
returns-in_err-found c =
    let none = word_refused _ _ c.word_at.ensures c.in_err-found.was in
    let told = err_from_is_err_and c.from_residual.result c.from_residual.ensures.1 in
    rw (told.1, told.2) (simp (none.other, ← none.told))

pub slice_bounds-same_bytes-count : goal.slice_bounds-same_bytes-count
slice_bounds-same_bytes-count c = (word_bytes _ _ c.word_at.ensures c.in_ok-found.was).0

pub slice_bounds-same_bytes-start : goal.slice_bounds-same_bytes-start
slice_bounds-same_bytes-start c = (word_bytes _ _ c.word_at.ensures c.in_ok-found.was).0

pub slice_bounds-same_bytes-end : goal.slice_bounds-same_bytes-end
slice_bounds-same_bytes-end c = (word_bytes _ _ c.word_at.ensures c.in_ok-found.was).1

pub returns-then-not-same_bytes : goal.returns-then-not-same_bytes
unfolding pass_word is_word part
returns-then-not-same_bytes c =
    simp (word_found _ _ c.word_at.ensures c.in_ok-found.was, ← c.same_bytes.ensures, c.if-not-same_bytes.true)

pub returns : goal.returns
unfolding pass_word is_word part
returns c =
    simp (word_found _ _ c.word_at.ensures c.in_ok-found.was, ← c.same_bytes.ensures, c.if-not-same_bytes.false)
