-- Every definition that reading a text computes with, named once. Assumes nothing.
use Prim.Native.Nat.{ℕ}
use Rattle.lists.specs.Ascii.{bytes_of}
use Rattle.plan.specs.Colours.{masks_from}
use Rattle.plan.specs.Zeros.{no_plan}
use Rattle.lexer.specs.Scan.{scan_from, scan_of, all_bytes}
use Rattle.lexer.specs.Tokens.{value_after, decimal_value, digits_token, run_token, longest_run, token_from, token_at}
use Rattle.syntax.specs.Brackets.{pass_head, bracketed_number, bracketed_op}
use Rattle.syntax.specs.Keywords.{follows}
use Rattle.syntax.specs.Ops.{number_op, send_op, op_keywords, op_at}
use Rattle.syntax.specs.Recipients.{next_recipient, recipient_at, mention, recipients_from, recipients_at}
use Rattle.syntax.specs.Tokens.{pass_open, pass_close, pass_line_end, same_bytes, is_word, pass_word, take_number}
use Rattle.forms.specs.Forms.{pad_form, run_form, declared_domain, window_form, op_form}
use Rattle.forms.specs.Forms.{next_domain, listed_domain, may_form, domain_form}
use Rattle.line.specs.Lines.{closed_line, noted_line, form_keywords, form_line, line_at}
use Rattle.reader.specs.Draft.{no_draft, no_ops, take_pad, take_run, take_domain, take_window, take_op, take_line}
use Rattle.plan.specs.Parts.{with_masks}
use Rattle.reader.specs.Final.{mentions_from, first_of, first_colourless, shares_verdict, final_verdict, plan_with_masks}
use Rattle.reader.specs.Read.{walk_from, read_verdict, read_of}

unfoldable pub reading : ℕ
unfolding
    bytes_of masks_from no_plan
    scan_from scan_of all_bytes
    value_after decimal_value digits_token run_token longest_run token_from token_at
    pass_open pass_close pass_line_end same_bytes is_word pass_word take_number
    pass_head bracketed_number bracketed_op follows number_op send_op op_keywords op_at
    next_recipient recipient_at mention recipients_from recipients_at
    pad_form run_form declared_domain window_form op_form next_domain listed_domain may_form domain_form
    closed_line noted_line form_keywords form_line line_at
    no_draft no_ops take_pad take_run take_domain take_window take_op take_line
    with_masks
    mentions_from first_of first_colourless shares_verdict final_verdict plan_with_masks
    walk_from read_verdict read_of
reading = 0
