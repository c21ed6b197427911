-- `syntax::keywords::form_keyword_at` meets its contract. Assumes nothing.
use Rattle.syntax.specs.Keywords.{keyword_at}
use Rattle.std.proofs.lemmas.Result.{err_from_is_err_and}
use Rattle.syntax.proofs.WordDue.{word_bytes, word_found, word_refused}
use Rattle.syntax.proofs.keywords.form_keyword_at.Goals as goal

pub form_word-requires : goal.form_word-requires
form_word-requires c = word_bytes _ _ c.word_at.ensures c.in_ok-word.was

pub returns-in_err-word : goal.returns-in_err-word
unfolding keyword_at
returns-in_err-word c =
    let none = word_refused _ _ c.word_at.ensures c.in_err-word.was in
    let told = err_from_is_err_and c.from_residual.result c.from_residual.ensures.1 in
    rw (told.1, told.2) (simp (none.other, ← none.told))

pub returns : goal.returns
unfolding keyword_at
returns c =
    simp (word_found _ _ c.word_at.ensures c.in_ok-word.was, ← c.form_word.ensures)
