-- What the parts of a release do, and what a release is of them.
use Rattle.std.proofs.Common.{◌≡◌, ◌≢◌, ◌∙◌, ℕ, ◌⊎◌, Bool, true, false, List, [], ◌∷◌, refl, sym, ap, subst, arith}
use Rattle.std.proofs.Common.{None, inl, inr}
use Rattle.std.proofs.lemmas.Bool.{true≢false, false≢true}
use Rattle.epoch_tables.specs.TableSteps.{after_own, after_free}
use Rattle.epoch_tables.specs.SharedSteps.{RestsAt}
use Rattle.epoch_cells.specs.declared.cells.name.Name.{Name}
use Rattle.epoch_bags.specs.Jobs.{IsCalled}
use Rattle.epoch_bags.specs.declared.job.Job.{Job}
use Rattle.epoch_tables.specs.declared.table.view.ParticipantView.{ParticipantView}
use Rattle.epoch_machine.specs.declared.machine.Action.{Action}
use Rattle.epoch_machine.specs.declared.machine.Action.TheVariants.{Release}
use Rattle.epoch_machine.specs.declared.machine.Answer.TheVariants.{Epoch, Stored}
use Rattle.epoch_machine.specs.declared.machine.Ask.TheVariants.{StoreFree}
use Rattle.epoch_machine.specs.declared.machine.Sizes.{Sizes}
use Rattle.epoch_machine.specs.declared.machine.Stage.{Stage}
use Rattle.epoch_machine.specs.declared.machine.Stage.TheVariants.{End, LoadSeal, StoreUnpinned as StageUnpinned}
use Rattle.epoch_machine.specs.declared.machine.Stage.TheVariants.{StoreFree as StageFree}
use Rattle.epoch_handles.specs.declared.local.Local.{Local}
use Rattle.epoch_machine.specs.Machine.{Machine, begun, heard, ended, fresh, guards_after, is_empty, after_unpin}
use Rattle.epoch_machine.specs.Machine.{after_put, after_collect, with_stage}
use Rattle.epoch_machine.specs.Asks.{Heard}
use Rattle.epoch_handles.specs.Drives.{Sight, NoJob, Drives, with_words}
use Rattle.epoch_handles.specs.Handles.{IsReady, IsSame, IsLeftWhole, IsDrivenTo, Steps, PinSteps, Collects, sight_of}
use Rattle.epoch_handles.specs.Releases.{IsLeaving, IsRefused, IsFreed, IsReleased}
use Rattle.epoch_handles.proofs.Driving.{one_performed, drives_on, drives_of}
use Rattle.epoch_handles.proofs.StraightCalls.{unpin_performed, sight_after, pin_drives, pinned_behind, seated_with}
use Rattle.epoch_handles.proofs.StraightCalls.{ready_with, rests_still}

-- THE STORES THAT END A RELEASE

module _ {J : Type 0} where
  -- after the store of an unpinned word the machine asks for the store of 0
  pub store_leads_on : (m : Machine J) → m.stage ≡ StageUnpinned → m.action ≡ Release → m.full ≡ false
      → heard m Stored ≡ with_stage m StageFree
  store_leads_on m at action room =
      subst (λ (s : Stage).
      let n : Machine J = record m { stage = s } in
      heard n Stored ≡ with_stage m StageFree) (sym at)
      (ap (λ (a : Action). with_stage m (after_unpin a m.full)) action
      ∙ ap (λ (b : Bool). with_stage m (after_unpin Release b)) room)

  -- and where its put found no place, the release is over
  pub store_is_last : (m : Machine J) → m.stage ≡ StageUnpinned → m.action ≡ Release → m.full ≡ true
      → heard m Stored ≡ with_stage m End
  store_is_last m at action full =
      subst (λ (s : Stage). let n : Machine J = record m { stage = s } in heard n Stored ≡ with_stage m End) (sym at)
      (ap (λ (a : Action). with_stage m (after_unpin a m.full)) action
      ∙ ap (λ (b : Bool). with_stage m (after_unpin Release b)) full)

  -- giving the position back is the last thing that the machine asks for
  free_performed : (places : ℕ) (m : Machine J) (v : Sight J)
      → Drives NoJob places (with_stage m StageFree) v (fresh m.sizes) (with_words v (after_free v.words))
  free_performed places m v = λ c. (
    c,
    record { ask = StoreFree; reply = Heard Stored } ∷ [],
    one_performed places _ _ _ (record { asked = refl; is_reply = tt; performs = (refl, refl); machine = refl }),
    (tt, tt),
  )

  -- the two stores of a participant that leaves
  pub leaving_performed : (places : ℕ) (m : Machine J) (v : Sight J)
      → m.stage ≡ StageUnpinned
      → m.action ≡ Release
      → m.full ≡ false
      → Drives NoJob places m v (fresh m.sizes) (with_words v (after_free (after_own v.words None)))
  leaving_performed places m v at action room =
      drives_on NoJob places m (with_stage m StageFree) (fresh m.sizes) v (with_words v (after_own v.words None)) _
      (subst (λ (z : Machine J). Drives NoJob places m v z (with_words v (after_own v.words None)))
      (store_leads_on m at action room)
      (unpin_performed places m v at))
      (free_performed places m (with_words v (after_own v.words None)))

module _ {T W : Type 0} where
  -- what the seats know after the two stores
  sight_gone : (h n o : Local T W)
      → Steps h n (after_own h.seat.me.0 None)
      → o.claimer ≡ n.claimer
      → o.seat.me.0 ≡ after_free n.seat.me.0
      → sight_of o ≡ with_words (sight_of h) (after_free (after_own h.seat.me.0 None))
  sight_gone h n o steps claimer knows =
      ap (λ (z : ParticipantView). record { words = z; places = o.claimer.me })
      (knows ∙ ap (λ (z : ParticipantView). after_free z) steps.knows)
      ∙ ap (λ z. record { words = after_free (after_own h.seat.me.0 None); places = z.me }) (claimer ∙ steps.claimer)

  -- the participant after the two stores: n after the first one, o after the second
  pub left_for_good : (done : W → Type 0) (tried : Name → Type 0) (h n o : Local T W) (told last : Machine (Job W))
      → h.machine.stage ≡ StageUnpinned
      → h.machine.action ≡ Release
      → h.machine.full ≡ false
      → h.machine.held ≡ []
      → Steps h n (after_own h.seat.me.0 None)
      → told ≡ heard n.machine Stored
      → o ≡ record n { machine = told; seat = o.seat }
      → o.seat.me.0 ≡ after_free n.seat.me.0
      → last ≡ heard o.machine Stored
      → RestsAt h.claimer.me
      → IsFreed done tried h (record o { machine = last })
  left_for_good done tried h n o told last at action room none steps is only knows is_last rests =
      let freed : last ≡ fresh h.machine.sizes = is_last ∙ ap (λ (z : Machine (Job W)). heard z Stored)
      (ap (λ (z : Local T W). z.machine) only ∙ is ∙ ap (λ (z : Machine (Job W)). heard z Stored) steps.machine
      ∙ store_leads_on h.machine at action room) in
      record {
        same = record {
          position = ap (λ (z : Local T W). z.position) only ∙ steps.position;
          collector = ap (λ (z : Local T W). z.collector) only ∙ steps.collector;
        };
        position = ap (λ (z : ParticipantView). z.position) knows;
        machine = freed;
        rests = subst (λ z. RestsAt z.me) (sym (ap (λ (z : Local T W). z.claimer) only ∙ steps.claimer)) rests;
        whole = λ some. absurd (some none);
        calls = drives_of (IsCalled done tried) h.collector.now.places.capacity h.machine last (sight_of h) (sight_of o)
            (subst (λ (z : Machine (Job W)). Drives NoJob h.collector.now.places.capacity h.machine (sight_of h) z
            (sight_of o)) (sym freed)
            (subst (λ (z : Sight (Job W)). Drives NoJob h.collector.now.places.capacity h.machine (sight_of h)
            (fresh h.machine.sizes) z)
            (sym (sight_gone h n o steps (ap (λ (z : Local T W). z.claimer) only) knows))
            (leaving_performed h.collector.now.places.capacity h.machine (sight_of h) at action room)));
      }

  -- A RELEASE THAT IS REFUSED

  -- the machine after its last store
  pub told_last : (h n : Local T W) (told : Machine (Job W))
      → h.machine.stage ≡ StageUnpinned
      → h.machine.action ≡ Release
      → h.machine.full ≡ true
      → n.machine ≡ h.machine
      → told ≡ heard n.machine Stored
      → told ≡ with_stage h.machine End
  told_last h n told at action full same is =
      is ∙ ap (λ (z : Machine (Job W)). heard z Stored) same ∙ store_is_last h.machine at action full

  -- a release that has found no place for its bag leaves the participant registered, and not pinned
  pub stayed : (done : W → Type 0) (tried : Name → Type 0) (h n : Local T W) (told last : Machine (Job W))
      → RestsAt h.claimer.me
      → h.machine.stage ≡ StageUnpinned
      → h.machine.action ≡ Release
      → h.machine.full ≡ true
      → h.machine.held ≢ []
      → h.machine.guards ≡ 0
      → Steps h n (after_own h.seat.me.0 None)
      → told ≡ heard n.machine Stored
      → last ≡ ended told
      → IsRefused done tried h (record n { machine = last })
  stayed done tried h n told last rests at action full held none steps is is_last =
      let over : told ≡ with_stage h.machine End = told_last h n told at action full steps.machine is in
      let leaves : last ≡ ended (with_stage h.machine End) = is_last ∙ ap (λ (z : Machine (Job W)). ended z) over in
      let counted : last.guards ≡ 0 = ap (λ (z : Machine (Job W)). z.guards) leaves
      ∙ ap (λ (a : Action). guards_after a h.machine.guards) action ∙ none in
      let heard_told : heard h.machine Stored ≡ told = ap (λ (z : Machine (Job W)). heard z Stored) (sym steps.machine)
      ∙ sym is in
      record {
        same = record { position = steps.position; collector = steps.collector };
        ends = record {
          last = told;
          over = ap (λ (z : Machine (Job W)). z.stage) over;
          machine = is_last;
          drives = drives_of (IsCalled done tried) h.collector.now.places.capacity h.machine told (sight_of h)
              (sight_of n)
              (subst (λ (z : Machine (Job W)). Drives NoJob h.collector.now.places.capacity h.machine (sight_of h) z
              (sight_of n)) heard_told
              (subst (λ (z : Sight (Job W)). Drives NoJob h.collector.now.places.capacity h.machine (sight_of h)
              (heard h.machine Stored) z) (sym (sight_after h n _ steps))
              (unpin_performed h.collector.now.places.capacity h.machine (sight_of h) at)));
        };
        ready = ready_with n last steps.seated (rests_still h n _ steps rests)
            (ap (λ (z : Machine (Job W)). z.sizes) leaves ∙ ap (λ (z : Machine (Job W)). z.sizes) (sym steps.machine))
            (ap (λ (z : Machine (Job W)). z.stage) leaves) (record {
              published = λ out. absurd (omega arith);
              read = λ out. absurd (omega arith);
              unpinned = λ _. ap (λ (z : ParticipantView). z.published) steps.knows;
            });
        held = (held, ap (λ (z : Machine (Job W)). z.held) leaves);
        counted = counted;
        full = ap (λ (z : Machine (Job W)). z.full) leaves ∙ full;
      }

-- WHAT FOLLOWS THE PIN AND THE COLLECTION

module _ {J : Type 0} where
  -- a release with no job left asks for no put after its collection
  pub no_put : (m : Machine J) (held : List J)
      → m.stage ≡ after_collect Release held → is_empty held ≡ true → m.stage ≡ StageUnpinned
  no_put m [] at none = at
  no_put m (job ∷ jobs) at none = absurd (false≢true none)

  -- and one with jobs asks for a put first
  pub put_first : (m : Machine J) (held : List J)
      → m.stage ≡ after_collect Release held → is_empty held ≡ false → m.stage ≡ LoadSeal
  put_first m [] at some = absurd (true≢false some)
  put_first m (job ∷ jobs) at some = at

  -- what a put left of the machine m, as the machine says: the bag is gone, or no place was free
  pub was_put : (m n : Machine J)
      → ((n ≡ record m { stage = after_put m.action false; full = false; held = [] })
      ⊎ (n ≡ record m { stage = after_put m.action true; full = true }))
      → n.full ≡ false
      → n ≡ record m { stage = after_put m.action false; full = false; held = [] }
  was_put m n (inl is) room = is
  was_put m n (inr is) room = absurd (true≢false (sym (ap (λ (z : Machine J). z.full) is) ∙ room))

  -- a put that tells of no place has left the held bag as it was
  pub was_full : (m n : Machine J)
      → ((n ≡ record m { stage = after_put m.action false; full = false; held = [] })
      ⊎ (n ≡ record m { stage = after_put m.action true; full = true }))
      → n.full ≡ true
      → n ≡ record m { stage = after_put m.action true; full = true }
  was_full m n (inl is) full = absurd (false≢true (sym (ap (λ (z : Machine J). z.full) is) ∙ full))
  was_full m n (inr is) full = is

module _ {T W : Type 0} where
  -- the bag stays in its place while the seat takes no step there
  pub left_still : (jobs : List (Job W)) (n o : Local T W)
      → o.claimer ≡ n.claimer → IsLeftWhole jobs n.claimer.me.0 → IsLeftWhole jobs o.claimer.me.0
  left_still jobs n o kept whole = subst (λ z. IsLeftWhole jobs z.me.0) (sym kept) whole

  -- what a release did before this way out belongs to it
  pub freed_behind : (done : W → Type 0) (tried : Name → Type 0) (h n o : Local T W)
      → IsSame h n
      → n.machine.sizes ≡ h.machine.sizes
      → IsDrivenTo (IsCalled done tried) h n
      → (h.machine.held ≢ [] → IsLeftWhole h.machine.held o.claimer.me.0)
      → IsFreed done tried n o
      → IsFreed done tried h o
  freed_behind done tried h n o same sizes before whole freed = record {
    same = record { position = freed.same.position ∙ same.position; collector = freed.same.collector ∙ same.collector };
    position = freed.position;
    machine = freed.machine ∙ ap (λ (z : Sizes). fresh z) sizes;
    rests = freed.rests;
    whole = whole;
    calls = drives_on (IsCalled done tried) h.collector.now.places.capacity h.machine n.machine o.machine (sight_of h)
        (sight_of n) (sight_of o) before
        (subst (λ z. Drives (IsCalled done tried) z.now.places.capacity n.machine (sight_of n) o.machine (sight_of o))
        same.collector freed.calls);
  }

  -- a refused release is refused whatever went before it, if that left the held bag as it was
  pub refused_behind : (done : W → Type 0) (tried : Name → Type 0) (h n o : Local T W)
      → IsSame h n
      → n.machine.held ≡ h.machine.held
      → IsDrivenTo (IsCalled done tried) h n
      → IsRefused done tried n o
      → IsRefused done tried h o
  refused_behind done tried h n o same held before refused =
      let ends = refused.ends in
      record {
        same = record {
          position = refused.same.position ∙ same.position;
          collector = refused.same.collector ∙ same.collector;
        };
        ends = record {
          last = ends.last;
          over = ends.over;
          machine = ends.machine;
          drives = drives_on (IsCalled done tried) h.collector.now.places.capacity h.machine n.machine ends.last
              (sight_of h)
              (sight_of n) (sight_of o) before
              (subst (λ z. Drives (IsCalled done tried) z.now.places.capacity n.machine (sight_of n) ends.last
              (sight_of o))
              same.collector ends.drives);
        };
        ready = refused.ready;
        held = ((λ none. refused.held.0 (held ∙ none)), refused.held.1 ∙ held);
        counted = refused.counted;
        full = refused.full;
      }

-- HOW A RELEASE COMES THERE

module _ {T W : Type 0} where
  -- after its pin
  pub release_pins : (done : W → Type 0) (tried : Name → Type 0) (h n : Local T W) (e : ℕ) (m : Machine (Job W))
      → IsReady h
      → h.machine.guards ≡ 0
      → PinSteps h e n
      → ((again : ℕ) → m ≡ heard (heard (heard (begun Release n.machine) (Epoch e)) Stored) (Epoch again))
      → IsLeaving done tried h (record n { machine = m })
  release_pins done tried h n e m ready none steps after =
      let is : m ≡ heard (heard (heard (begun Release h.machine) (Epoch e)) Stored) (Epoch steps.again) =
      after steps.again
      ∙ ap (λ (z : Machine (Job W)). heard (heard (heard (begun Release z) (Epoch e)) Stored) (Epoch steps.again))
      steps.steps.machine in
      record {
        seated = seated_with n m (ap (λ (z : Machine (Job W)). z.sizes) (after 0)) steps.steps.seated;
        rests = rests_still h n _ steps.steps ready.rests;
        pinned = pinned_behind h n e steps;
        same = record { position = steps.steps.position; collector = steps.steps.collector };
        action = ap (λ (z : Machine (Job W)). z.action) is;
        room = ap (λ (z : Machine (Job W)). z.full) is;
        none = ap (λ (z : Machine (Job W)). z.guards) is ∙ none;
        held = ap (λ (z : Machine (Job W)). z.held) is;
        sizes = ap (λ (z : Machine (Job W)). z.sizes) is;
        calls = drives_of (IsCalled done tried) h.collector.now.places.capacity (begun Release h.machine) m
            (sight_of h) (sight_of n)
            (subst (λ (z : Machine (Job W)). Drives NoJob h.collector.now.places.capacity (begun Release h.machine)
            (sight_of h) z (sight_of n)) (sym is)
            (pin_drives h n (begun Release h.machine) e refl steps));
      }

  -- after its collection
  pub release_collects : (done : W → Type 0) (tried : Name → Type 0) (h n o : Local T W)
      → IsLeaving done tried h n → Collects done tried n o → IsLeaving done tried h o
  release_collects done tried h n o leaving collects = record {
    seated = collects.seated;
    rests = collects.rests;
    pinned = record {
      published = (leaving.pinned.published.0, collects.pin.published ∙ leaving.pinned.published.1);
      read = (leaving.pinned.read.0, collects.pin.read ∙ leaving.pinned.read.1);
    };
    same = record {
      position = collects.same.position ∙ leaving.same.position;
      collector = collects.same.collector ∙ leaving.same.collector;
    };
    action = ap (λ (z : Machine (Job W)). z.action) collects.machine ∙ leaving.action;
    room = ap (λ (z : Machine (Job W)). z.full) collects.machine ∙ leaving.room;
    none = ap (λ (z : Machine (Job W)). z.guards) collects.machine ∙ leaving.none;
    held = ap (λ (z : Machine (Job W)). z.held) collects.machine ∙ leaving.held;
    sizes = ap (λ (z : Machine (Job W)). z.sizes) collects.machine ∙ leaving.sizes;
    calls = drives_on (IsCalled done tried) h.collector.now.places.capacity (begun Release h.machine) n.machine
        o.machine
        (sight_of h) (sight_of n) (sight_of o) leaving.calls
        (subst (λ z. Drives (IsCalled done tried) z.now.places.capacity n.machine (sight_of n) o.machine (sight_of o))
        leaving.same.collector collects.calls);
  }

  -- the collection of a release goes on to its put
  pub collected_to_leave : (done : W → Type 0) (tried : Name → Type 0) (h n o : Local T W)
      → IsLeaving done tried h n → Collects done tried n o → o.machine.stage ≡ after_collect Release o.machine.held
  collected_to_leave done tried h n o leaving collects =
      ap (λ (z : Machine (Job W)). z.stage) collects.machine
      ∙ ap (λ (a : Action). after_collect a n.machine.held) leaving.action
      ∙ ap (λ (z : List (Job W)). after_collect Release z) (sym (ap (λ (z : Machine (Job W)). z.held) collects.machine))

  -- HOW IT COMES OUT

  -- a release whose last put is refused is refused as a whole
  pub refused_at_last : (done : W → Type 0) (tried : Name → Type 0) (h n o : Local T W)
      → IsLeaving done tried h n → IsRefused done tried n o → IsRefused done tried
      (record h { machine = begun Release h.machine }) o
  refused_at_last done tried h n o leaving refused =
      refused_behind done tried (record h { machine = begun Release h.machine }) n o
      (record { position = leaving.same.position; collector = leaving.same.collector }) leaving.held
      leaving.calls refused

  -- a release whose position is given back is done as a whole
  pub freed_at_last : (done : W → Type 0) (tried : Name → Type 0) (h n o : Local T W)
      → IsLeaving done tried h n → IsFreed done tried n o → IsReleased done tried h o
  freed_at_last done tried h n o leaving freed =
      freed_behind done tried (record h { machine = begun Release h.machine }) n o
      (record { position = leaving.same.position; collector = leaving.same.collector }) leaving.sizes leaving.calls
      (subst (λ (z : List (Job W)). z ≢ [] → IsLeftWhole z o.claimer.me.0) leaving.held freed.whole) freed

  -- and in both cases the handle is of the same collector and the same sizes
  pub same_at_last : (done : W → Type 0) (tried : Name → Type 0) (h n o : Local T W) (free : Bool)
      → IsLeaving done tried h n
      → (free ≡ false → IsRefused done tried n o)
      → (free ≡ true → IsFreed done tried n o)
      → IsSame h o
  same_at_last done tried h n o false leaving refused freed =
      let same = (refused refl).same in
      record { position = same.position ∙ leaving.same.position; collector = same.collector ∙ leaving.same.collector }
  same_at_last done tried h n o true leaving refused freed =
      let same = (freed refl).same in
      record { position = same.position ∙ leaving.same.position; collector = same.collector ∙ leaving.same.collector }
