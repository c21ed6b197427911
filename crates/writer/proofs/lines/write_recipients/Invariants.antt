-- `writer::lines::write_recipients` meets its contract. The loop's invariant: the recipients from
-- the domain on are left to write. Assumes nothing.
use Rattle.writer.specs.Lines.{recipients_of, spaced}
use Rattle.writer.proofs.Recipients.{recipients_left}
use Rattle.writer.proofs.Rest.{Writing}
use Rattle.writer.proofs.lines.write_recipients.Given as goal

abbrev pub invariant-loop-domain : goal.invariant-loop-domain
invariant-loop-domain l =
    Writing l.initial.out l.at (spaced (recipients_of l.rights)) (recipients_left l.rights l.domain) l.out l.next
