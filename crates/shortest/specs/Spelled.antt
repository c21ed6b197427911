-- Document 02, E4: a form in its canonical spelling, whatever plan it stands in. Assumes nothing.
use Rattle.std.specs.Prelude.{ℕ, List, []}
use Rattle.forms.specs.declared.Form.{Form}
use Rattle.forms.specs.declared.Form.TheVariants.{Blank, Pad, Run, Domain, Window, Op}
use Rattle.writer.specs.Lines.{domain_text, op_line, pad_text, run_text, window_text}

-- `declared` domains stand above it, and so that is a domain form's number; a line without a form has no byte
unfoldable pub spelled : ℕ → Form → List ℕ
spelled declared Blank = []
spelled declared (Pad ticks) = pad_text ticks
spelled declared (Run times) = run_text times
spelled declared (Domain line) = domain_text declared line.share line.rights
spelled declared (Window line) = window_text line.owner line.length
spelled declared (Op line) = op_line line.domain line.op
