use Rattle.std.proofs.Common.{ℕ, below_more, arith, refl, ap, sym, ◌∙◌}
use Rattle.std.proofs.lemmas.Bool.Decides.{not_from_Decides}
use Rattle.epoch_laws.specs.declared.step.Entry.{Entry}
use Rattle.epoch_laws.specs.Lawful.{IsDeferredBefore}
use Rattle.epoch_laws.proofs.Log.{stands_within}
use Rattle.epoch_laws.proofs.PlacesRead.{stands_read}
use Rattle.epoch_laws.proofs.CallsChecked.{of_each_called, where_none_called}
use Rattle.epoch_laws.proofs.histories.tickets.calls_after_deferrals.Goals as goal
use Rattle.epoch_laws.proofs.histories.tickets.calls_after_deferrals.Goals.{in-Called+else-not-is_deferred_before}
use Rattle.epoch_laws.proofs.histories.tickets.calls_after_deferrals.Goals.{in_default}

-- the ticket called here was not deferred before
pub returns-then-not-is_deferred_before : goal.returns-then-not-is_deferred_before
returns-then-not-is_deferred_before c =
    let here = stands_read c.args.entries.now c.loop-place.place _ _ c.loop-place-test.true
    (sym (ap (λ (entry : Entry). entry.reply) c.index-entries-place.is) ∙ c.in-Called.is) in (
      λ yes. absurd (cc),
      λ all. absurd (not_from_Decides _ c.is_deferred_before.ensures c.if-not-is_deferred_before.true
          (all c.in-Called.ticket c.loop-place.place c.in-Called.field-1 here)),
    )

pub loop-place-preserved : goal.loop-place-preserved
loop-place-preserved c =
    let before = λ (t : ℕ). IsDeferredBefore c.args.entries.now t c.loop-place.place in
    below_more _ _ c.loop-place.invariant (elim c.match-entry.branch [
      | in-Called+else-not-is_deferred_before w ↦
          of_each_called c.args.entries.now c.loop-place.place _ _ _ before
          (sym (ap (λ (entry : Entry). entry.reply) c.index-entries-place.is) ∙ w.in-Called.is)
          (w.is_deferred_before.ensures.0 w.if-not-is_deferred_before.false)
      | in_default w ↦ where_none_called c.args.entries.now c.loop-place.place _ before
          (λ t how is. w.in_default.not-Called t how
          (ap (λ (entry : Entry). entry.reply) c.index-entries-place.is ∙ is))
    ])

pub returns : goal.returns
returns c = (
  λ yes t j how at. c.loop-place.invariant j (omega (arith, stands_within c.args.entries.now j _ at)) t how at,
  λ h. refl,
)
