-- The pin of a participant with no guard out, whose machine has gone on before the epoch is published.
use Rattle.std.proofs.Common.{◌≡◌, ◌∙◌, ℕ, ◌≤◌, Bool, true, false, refl, sym, ap, subst, Some}
use Rattle.epoch_tables.specs.TableSteps.{after_epoch, after_own}
use Rattle.epoch_bags.specs.declared.job.Job.{Job}
use Rattle.epoch_machine.specs.declared.machine.Action.TheVariants.{Pin}
use Rattle.epoch_machine.specs.declared.machine.Answer.TheVariants.{Epoch, Stored}
use Rattle.epoch_machine.specs.declared.machine.Stage.TheVariants.{End}
use Rattle.epoch_handles.specs.declared.local.Local.{Local}
use Rattle.epoch_machine.specs.Machine.{Machine, begun, heard, ended}
use Rattle.epoch_handles.specs.Handles.{IsSeated, Steps, PublishSteps, PinSteps}
use Rattle.epoch_handles.proofs.StraightCalls.{pin_leaves, seated_with, steps_on}

-- the machine after the three answers of a pin
abbrev pub told_of_pin : {J : Type 0} → Machine J → (e again : ℕ) → Machine J
told_of_pin m e again = heard (heard (heard (begun Pin m) (Epoch e)) Stored) (Epoch again)

-- what became of the machine m in a pin that published e, and after which a collection follows or doesn't
pub record GoesOn {J : Type 0} (m : Machine J) (e : ℕ) (collects : Bool) (n : Machine J) : Type 0 where
  pub follows : collects ≡ true → (again : ℕ) → n ≡ told_of_pin m e again
  pub stops : collects ≡ false → (again : ℕ) → (told_of_pin m e again).stage ≡ End
  pub ends : collects ≡ false → (again : ℕ) → n ≡ ended (told_of_pin m e again)

-- a machine that goes on with a pin keeps its sizes
keeps_sizes : {J : Type 0} (m n : Machine J) (e : ℕ) (collects : Bool)
    → m.guards ≡ 0 → GoesOn m e collects n → n.sizes ≡ m.sizes
keeps_sizes m n e true none goes = ap (λ (z : Machine _). z.sizes) (goes.follows refl 0) ∙ (pin_leaves m e 0 none).0
keeps_sizes m n e false none goes = ap (λ (z : Machine _). z.sizes) (goes.ends refl 0) ∙ (pin_leaves m e 0 none).0

module _ {T W : Type 0} where
  -- a load, and the publish of the epoch found with the load after it
  pub load_and_publish : (h n w : Local T W) (e : ℕ)
      → h.seat.me.0.seen ≤ e
      → Steps h n (after_epoch h.seat.me.0 e)
      → PublishSteps n e w
      → PinSteps h e w
  load_and_publish h n w e rises load publish = record {
    again = publish.again;
    rises = rises;
    rises_again = publish.rises;
    steps = subst (λ z. Steps h w (after_epoch (after_own z (Some e)) publish.again)) load.knows
        (steps_on h n w _ _ load publish.steps);
  }

  -- the participant is seated at the publish, with the machine that has gone on
  pub still_seated : (h n : Local T W) (m : Machine (Job W)) (e : ℕ) (collects : Bool)
      → h.machine.guards ≡ 0
      → Steps h n (after_epoch h.seat.me.0 e)
      → GoesOn n.machine e collects m
      → IsSeated (record n { machine = m })
  still_seated h n m e collects none load goes =
      seated_with n m
      (keeps_sizes n.machine m e collects (ap (λ (z : Machine (Job W)). z.guards) load.machine ∙ none) goes) load.seated

  -- The pin as its steps and its machine tell of it, each for itself: the steps are those of a pin that leaves the
  -- machine as it was.
  pub record PinsFirst (h : Local T W) (e : ℕ) (collects : Bool) (w : Local T W) : Type 0 where
    pub none : h.machine.guards ≡ 0
    pub steps : PinSteps h e (record w { machine = h.machine })
    pub machine : GoesOn h.machine e collects w.machine

  -- the first guard of a participant loads the epoch, publishes it, and loads it again
  pub pins_first : (h n w : Local T W) (m : Machine (Job W)) (e : ℕ) (collects : Bool)
      → h.machine.guards ≡ 0
      → h.seat.me.0.seen ≤ e
      → Steps h n (after_epoch h.seat.me.0 e)
      → GoesOn n.machine e collects m
      → PublishSteps (record n { machine = m }) e w
      → PinsFirst h e collects w
  pins_first h n w m e collects none rises load goes publish =
      let at_load : GoesOn h.machine e collects m =
      subst (λ (z : Machine (Job W)). GoesOn z e collects m) load.machine goes in
      let moved : GoesOn h.machine e collects w.machine = subst (λ (z : Machine (Job W)). GoesOn h.machine e collects z)
      (sym publish.steps.machine) at_load in
      record {
        none = none;
        steps = record {
          again = publish.again;
          rises = rises;
          rises_again = publish.rises;
          steps = record {
            seated = seated_with w h.machine
                (sym (keeps_sizes h.machine w.machine e collects none moved)) publish.steps.seated;
            knows = publish.steps.knows ∙ ap (λ z. after_epoch (after_own z (Some e)) publish.again) load.knows;
            claimer = publish.steps.claimer ∙ load.claimer;
            machine = refl;
            position = publish.steps.position ∙ load.position;
            collector = publish.steps.collector ∙ load.collector;
          };
        };
        machine = moved;
      }
