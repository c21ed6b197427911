-- `syntax::op_tokens::op_at` meets its contract. Assumes nothing.
use Rattle.std.proofs.Common.{rules}
use mathlib.Core.Path.{refl, ap, ◌∙◌}
use Rattle.std.specs.Prelude.{ℕ, List, Result, Ok, Err}
use Rattle.lists.specs.Ascii.{bytes_of}
use Rattle.refusal.specs.declared.Refusal.{Refusal}
use Rattle.script.specs.declared.Op.{Op}
use Rattle.script.specs.declared.Op.TheVariants.{Read as ReadOp, Write as WriteOp, Receive as ReceiveOp, Compute as ComputeOp}
use Rattle.script.specs.Limits.{last_domain, least_ticks, most_number, most_ticks}
use Rattle.std.proofs.lemmas.Result.{err_from_is_err_and}
use Rattle.syntax.proofs.ByKeyword.{by_keyword}
use Rattle.syntax.specs.declared.OpWord.{OpWord}
use Rattle.syntax.specs.declared.OpWord.TheVariants.{Read, Write, Send, Receive, Compute}
use Rattle.syntax.specs.Keywords.{op_words}
use Rattle.syntax.specs.Ops.{number_op, op_at, op_keywords, send_op}
use Rattle.syntax.proofs.op_tokens.op_at.Goals as goal

-- what follows an op's word
abbrev op_follow : List ℕ → OpWord → ℕ → Result (Op × ℕ) Refusal
op_follow text Read = number_op text 0 most_number ReadOp
op_follow text Write = number_op text 0 most_number WriteOp
op_follow text Send = send_op text
op_follow text Receive = number_op text 0 last_domain ReceiveOp
op_follow text Compute = number_op text least_ticks most_ticks ComputeOp

pub returns-in_err-word : goal.returns-in_err-word
unfolding op_at op_keywords bytes_of
returns-in_err-word c =
    let told = err_from_is_err_and c.from_residual.result c.from_residual.ensures.1 in
    rw (told.1, told.2)
    (by_keyword Err (op_follow c.args.text.now) op_words _ _ c.op_keyword_at.ensures c.in_err-word.was refl)

pub returns-in-Read : goal.returns-in-Read
unfolding op_at op_keywords bytes_of
returns-in-Read c =
    by_keyword Err (op_follow c.args.text.now) op_words _ _ c.op_keyword_at.ensures
    (c.in_ok-word.was ∙ ap (λ (word : OpWord). Ok (word, c.in_ok-word.end)) c.in-Read.is)
    (c.number_op.ensures ReadOp (search rules))

pub returns-in-Write : goal.returns-in-Write
unfolding op_at op_keywords bytes_of
returns-in-Write c =
    by_keyword Err (op_follow c.args.text.now) op_words _ _ c.op_keyword_at.ensures
    (c.in_ok-word.was ∙ ap (λ (word : OpWord). Ok (word, c.in_ok-word.end)) c.in-Write.is)
    (c.number_op-in-Write.ensures WriteOp (search rules))

pub returns-in-Send : goal.returns-in-Send
unfolding op_at op_keywords bytes_of
returns-in-Send c =
    by_keyword Err (op_follow c.args.text.now) op_words _ _ c.op_keyword_at.ensures
    (c.in_ok-word.was ∙ ap (λ (word : OpWord). Ok (word, c.in_ok-word.end)) c.in-Send.is)
    c.send_op.ensures

pub returns-in-Receive : goal.returns-in-Receive
unfolding op_at op_keywords bytes_of
returns-in-Receive c =
    by_keyword Err (op_follow c.args.text.now) op_words _ _ c.op_keyword_at.ensures
    (c.in_ok-word.was ∙ ap (λ (word : OpWord). Ok (word, c.in_ok-word.end)) c.in-Receive.is)
    (c.number_op-in-Receive.ensures ReceiveOp (search rules))

pub returns-in-Compute : goal.returns-in-Compute
unfolding op_at op_keywords bytes_of
returns-in-Compute c =
    by_keyword Err (op_follow c.args.text.now) op_words _ _ c.op_keyword_at.ensures
    (c.in_ok-word.was ∙ ap (λ (word : OpWord). Ok (word, c.in_ok-word.end)) c.in-Compute.is)
    (c.number_op-in-Compute.ensures ComputeOp (search rules))
