use Rattle.std.proofs.Common.{ℕ, below_more, arith, refl, ap, sym, ◌∙◌}
use Rattle.std.proofs.lemmas.Bool.Decides.{not_from_Decides}
use Rattle.epoch_laws.specs.declared.step.Entry.{Entry}
use Rattle.epoch_laws.specs.Lawful.{IsCalledBefore}
use Rattle.epoch_laws.proofs.PlacesRead.{stands_read}
use Rattle.epoch_laws.proofs.CallsChecked.{of_each_called, where_none_called, none_twice, called_twice}
use Rattle.epoch_laws.proofs.histories.tickets.calls_none_twice.Goals as goal
use Rattle.epoch_laws.proofs.histories.tickets.calls_none_twice.Goals.{in-Called+else-is_called_before, in_default}

-- the ticket called here was called before
pub returns-then-is_called_before : goal.returns-then-is_called_before
returns-then-is_called_before c =
    let here = stands_read c.args.entries.now c.loop-place.place _ _ c.loop-place-test.true
    (sym (ap (λ (entry : Entry). entry.reply) c.index-entries-place.is) ∙ c.in-Called.is) in (
      λ yes. absurd (cc),
      λ none. absurd (called_twice c.args.entries.now c.in-Called.ticket c.loop-place.place c.in-Called.field-1 here
          (c.is_called_before.ensures.0 c.if-is_called_before.true) none),
    )

pub loop-place-preserved : goal.loop-place-preserved
loop-place-preserved c =
    let not_before = λ (t : ℕ). ¬ (IsCalledBefore c.args.entries.now t c.loop-place.place) in
    below_more _ _ c.loop-place.invariant (elim c.match-entry.branch [
      | in-Called+else-is_called_before w ↦
          of_each_called c.args.entries.now c.loop-place.place _ _ _ not_before
          (sym (ap (λ (entry : Entry). entry.reply) c.index-entries-place.is) ∙ w.in-Called.is)
          (not_from_Decides _ w.is_called_before.ensures w.if-is_called_before.false)
      | in_default w ↦
          where_none_called c.args.entries.now c.loop-place.place _ not_before
          (λ t how is. w.in_default.not-Called t how
          (ap (λ (entry : Entry). entry.reply) c.index-entries-place.is ∙ is))
    ])

pub returns : goal.returns
returns c = (λ yes. none_twice _ (λ j lt. c.loop-place.invariant j (omega arith)), λ h. refl)
