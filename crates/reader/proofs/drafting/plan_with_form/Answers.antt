-- `reader::drafting::plan_with_form` meets its contract. Assumes nothing.
use borrow.Author.Rules.{rules}
use Rattle.reader.proofs.drafting.plan_with_form.Goals as goal

pub bounds-plan-next : goal.bounds-plan-next
bounds-plan-next c =
    let room = c.requires.0 _ c.in-Domain.is in
    search rules

pub bounds-plan-next-in-Domain : goal.bounds-plan-next-in-Domain
bounds-plan-next-in-Domain c =
    let room = c.requires.0 _ c.in-Domain.is in
    search rules

pub overflow_add-plan : goal.overflow_add-plan
overflow_add-plan c =
    let room = c.requires.0 _ c.in-Domain.is in
    search rules

pub bounds-plan-next-in-Window : goal.bounds-plan-next-in-Window
bounds-plan-next-in-Window c =
    let room = c.requires.1 _ c.in-Window.is in
    search rules

pub bounds-plan-next-in-Window-2 : goal.bounds-plan-next-in-Window-2
bounds-plan-next-in-Window-2 c =
    let room = c.requires.1 _ c.in-Window.is in
    search rules

pub overflow_add-plan-in-Window : goal.overflow_add-plan-in-Window
overflow_add-plan-in-Window c =
    let room = c.requires.1 _ c.in-Window.is in
    search rules

pub returns-in-Pad : goal.returns-in-Pad
returns-in-Pad c = simp c.in-Pad.is

pub returns-in-Run : goal.returns-in-Run
returns-in-Run c = simp c.in-Run.is

pub returns-in-Domain : goal.returns-in-Domain
returns-in-Domain c = simp c.in-Domain.is

pub returns-in-Window : goal.returns-in-Window
returns-in-Window c = simp c.in-Window.is
