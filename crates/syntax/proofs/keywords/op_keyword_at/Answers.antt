-- `syntax::keywords::op_keyword_at` meets its contract. Assumes nothing.
use Rattle.syntax.specs.Keywords.{keyword_at}
use Rattle.std.proofs.lemmas.Result.{err_from_is_err_and}
use Rattle.syntax.proofs.WordDue.{word_bytes, word_found, word_refused}
use Rattle.syntax.proofs.keywords.op_keyword_at.Goals as goal

pub op_word-requires : goal.op_word-requires
op_word-requires c = word_bytes _ _ c.word_at.ensures c.in_ok-word.was

pub returns-in_err-word : goal.returns-in_err-word
unfolding keyword_at
returns-in_err-word c =
    let none = word_refused _ _ c.word_at.ensures c.in_err-word.was in
    let told = err_from_is_err_and c.from_residual.result c.from_residual.ensures.1 in
    rw (told.1, told.2) (simp (none.other, ← none.told))

pub returns : goal.returns
unfolding keyword_at
returns c =
    simp (word_found _ _ c.word_at.ensures c.in_ok-word.was, ← c.op_word.ensures)
