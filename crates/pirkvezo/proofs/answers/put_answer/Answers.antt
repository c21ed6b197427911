-- `pirkvezo::answers::put_answer` meets its contract. Assumes nothing.
use mathlib.Core.Path.{ap}
use borrow.Author.Rules.{rules}
use lib.ListN.{length-set}
use Rattle.refusal.specs.declared.Code.{Code}
use Rattle.pirkvezo.proofs.Answered.{answer_left, answer_written}
use Rattle.pirkvezo.proofs.answers.put_answer.Goals as goal

pub bounds-answer-3 : goal.bounds-answer-3
bounds-answer-3 c = simp length-set (search rules)

pub returns-then-answer-eq-ANSWER_LENGTH : goal.returns-then-answer-eq-ANSWER_LENGTH
returns-then-answer-eq-ANSWER_LENGTH c =
    let judged = c.code_of-code.ensures in
    (ap (λ (code : Code). code.number) judged, answer_written _ _ _ _ c.code_of-code.result judged c.if-answer-eq-ANSWER_LENGTH.true)

pub returns-else-answer-eq-ANSWER_LENGTH : goal.returns-else-answer-eq-ANSWER_LENGTH
returns-else-answer-eq-ANSWER_LENGTH c = (ap (λ (code : Code). code.number) c.code_of-code.ensures, answer_left _ _ _ _ c.if-answer-eq-ANSWER_LENGTH.false)
