-- A flush from its parts: how it begins, what its put and its collection leave, and that the two are its asks.
use Rattle.std.proofs.Common.{◌≡◌, ◌∙◌, ℕ, ◌<◌, ◌⊎◌, if◌then◌else◌, Bool, true, false, List, [], refl, sym, ap, subst}
use Rattle.std.proofs.Common.{arith, inl, inr, Some}
use Rattle.epoch_tables.specs.SharedSteps.{RestsAt}
use Rattle.epoch_cells.specs.declared.cells.name.Name.{Name}
use Rattle.epoch_bags.specs.Jobs.{IsCalled}
use Rattle.epoch_bags.specs.declared.job.Job.{Job}
use Rattle.epoch_machine.specs.declared.machine.Action.{Action}
use Rattle.epoch_machine.specs.declared.machine.Action.TheVariants.{Flush}
use Rattle.epoch_machine.specs.declared.machine.Stage.{Stage}
use Rattle.epoch_machine.specs.declared.machine.Stage.TheVariants.{End, LoadScan, LoadSeal}
use Rattle.epoch_handles.specs.declared.local.Local.{Local}
use Rattle.epoch_machine.specs.Machine.{Machine, begun, ended, is_empty, after_collect, after_put, guards_after}
use Rattle.epoch_handles.specs.Drives.{NoJob, Drives}
use Rattle.epoch_handles.specs.Handles.{IsSeated, IsReady, IsSame, IsPinned, KeepsPin, Collects, Puts, IsDrivenTo}
use Rattle.epoch_handles.specs.Handles.{DoesAndCalls, sight_of}
use Rattle.epoch_handles.proofs.Driving.{drives_none, drives_of, drives_on}
use Rattle.epoch_handles.proofs.StraightCalls.{reading, ready_with, seated_with}

module _ {J : Type 0} where
  -- HOW IT BEGINS

  -- a flush of an empty bag begins with the scan of its collection
  pub flush_scans : (m : Machine J) → is_empty m.held ≡ true → (begun Flush m).stage ≡ LoadScan
  flush_scans m none = ap (λ (b : Bool). if b then LoadScan else LoadSeal) none

  -- a flush of a bag with jobs begins with the load of its seal
  pub flush_seals : (m : Machine J) → is_empty m.held ≡ false → (begun Flush m).stage ≡ LoadSeal
  flush_seals m some = ap (λ (b : Bool). if b then LoadScan else LoadSeal) some

  -- WHAT ITS PARTS LEAVE

  -- the machine n flushes, and counts and has published what m does
  pub record Flushes (m n : Machine J) : Type 0 where
    pub action : n.action ≡ Flush
    pub sizes : n.sizes ≡ m.sizes
    pub guards : n.guards ≡ m.guards
    pub published : n.published ≡ m.published

  -- the machine of a flush that has begun asks first for one of the two
  pub flush_begun : (m n : Machine J) → n ≡ begun Flush m → Flushes m n
  flush_begun m n is = record {
    action = ap (λ (z : Machine J). z.action) is;
    sizes = ap (λ (z : Machine J). z.sizes) is;
    guards = ap (λ (z : Machine J). z.guards) is;
    published = ap (λ (z : Machine J). z.published) is;
  }

  -- another stage and other bags leave all this
  flushes_still : (m n o : Machine J) (stage : Stage) (full : Bool) (held hand : List J)
      → o ≡ record n { stage = stage; full = full; held = held; hand = hand }
      → Flushes m n
      → Flushes m o
  flushes_still m n o stage full held hand is flushes = record {
    action = ap (λ (z : Machine J). z.action) is ∙ flushes.action;
    sizes = ap (λ (z : Machine J). z.sizes) is ∙ flushes.sizes;
    guards = ap (λ (z : Machine J). z.guards) is ∙ flushes.guards;
    published = ap (λ (z : Machine J). z.published) is ∙ flushes.published;
  }

  -- no guard is counted by a flush
  pub none_counted : (m : Machine J) → m.action ≡ Flush → guards_after m.action m.guards ≡ m.guards
  none_counted m flush = ap (λ (a : Action). guards_after a m.guards) flush

  -- THE PUT

  -- the machine n after the put of a flush at m: the bag is in a place, or is still held
  abbrev IsPut : Machine J → Machine J → Type 0
  IsPut m n = (n ≡ record m { stage = after_put m.action false; full = false; held = [] })
      ⊎ (n ≡ record m { stage = after_put m.action true; full = true })

  -- it flushes still
  put_flushes : (m n o : Machine J) → Flushes m n → IsPut n o → Flushes m o
  put_flushes m n o flushes (inl is) = flushes_still m n o _ _ _ _ is flushes
  put_flushes m n o flushes (inr is) = flushes_still m n o _ _ _ _ is flushes

  -- bags are collected next, whatever came of the put
  put_comes_to_scan : (n o : Machine J) → n.action ≡ Flush → IsPut n o → o.stage ≡ LoadScan
  put_comes_to_scan n o flush (inl is) =
      ap (λ (z : Machine J). z.stage) is ∙ ap (λ (a : Action). after_put a false) flush
  put_comes_to_scan n o flush (inr is) =
      ap (λ (z : Machine J). z.stage) is ∙ ap (λ (a : Action). after_put a true) flush

module _ {T W : Type 0} where
  -- WHAT A HANDLE KEEPS

  -- a participant with a guard out is pinned
  pub pinned_with_guards : (h : Local T W) → IsReady h → 0 < h.machine.guards → IsPinned h.seat.me.0
  pinned_with_guards h ready out = record {
    published = (h.machine.published, ready.agrees.published out);
    read = reading h.seat.me.0.first_read (ready.agrees.read out);
  }

  -- a step that keeps the pin leaves a pinned participant pinned
  pub still_pinned : (h n : Local T W) → KeepsPin h n → IsPinned h.seat.me.0 → IsPinned n.seat.me.0
  still_pinned h n keeps pinned = record {
    published = (pinned.published.0, keeps.published ∙ pinned.published.1);
    read = (pinned.read.0, keeps.read ∙ pinned.read.1);
  }

  -- The flush of h has come to the collection of n.
  pub record ComesToScan (h n : Local T W) : Type 0 where
    pub seated : IsSeated n
    pub rests : RestsAt n.claimer.me
    pub same : IsSame h n
    pub pin : KeepsPin h n
    pub flushes : Flushes h.machine n.machine
    pub scans : n.machine.stage ≡ LoadScan
    pub drives : IsDrivenTo NoJob (record h { machine = begun Flush h.machine }) n

  -- with no job held it begins there
  pub scan_begins : (h : Local T W) (m : Machine (Job W))
      → IsReady h
      → m ≡ begun Flush h.machine
      → is_empty h.machine.held ≡ true
      → ComesToScan h (record h { machine = m })
  scan_begins h m ready is none = record {
    seated = seated_with h m (ap (λ (z : Machine (Job W)). z.sizes) is) ready.seated;
    rests = ready.rests;
    same = record { position = refl; collector = refl };
    pin = record { published = refl; read = refl };
    flushes = flush_begun h.machine m is;
    scans = ap (λ (z : Machine (Job W)). z.stage) is ∙ flush_scans h.machine none;
    drives = subst (λ (z : Machine (Job W)). Drives NoJob h.collector.now.places.capacity z (sight_of h) m (sight_of h))
        is (drives_none NoJob h.collector.now.places.capacity m (sight_of h));
  }

  -- a held bag is put first
  pub put_before_scan : (h n : Local T W) (m : Machine (Job W))
      → m ≡ begun Flush h.machine
      → Puts (record h { machine = m }) n
      → ComesToScan h n
  put_before_scan h n m is puts =
      let flushes = flush_begun h.machine m is in
      record {
        seated = puts.seated;
        rests = puts.rests;
        same = record { position = puts.same.position; collector = puts.same.collector };
        pin = record { published = puts.pin.published; read = puts.pin.read };
        flushes = put_flushes h.machine m n.machine flushes puts.machine;
        scans = put_comes_to_scan m n.machine flushes.action puts.machine;
        drives = subst (λ (z : Machine (Job W)). Drives NoJob h.collector.now.places.capacity z (sight_of h) n.machine
            (sight_of n)) is puts.drives;
      }

  -- The flush of h has nothing left to ask at o.
  pub record HasFlushed (done : W → Type 0) (tried : Name → Type 0) (h o : Local T W) : Type 0 where
    pub seated : IsSeated o
    pub rests : RestsAt o.claimer.me
    pub same : IsSame h o
    pub pin : KeepsPin h o
    pub flushes : Flushes h.machine o.machine
    pub ends : o.machine.stage ≡ End
    pub calls : IsDrivenTo (IsCalled done tried) (record h { machine = begun Flush h.machine }) o

  -- a flush is done when the collection behind its put has ended
  pub collection_ends : (done : W → Type 0) (tried : Name → Type 0) (h n o : Local T W)
      → ComesToScan h n → Collects done tried n o → HasFlushed done tried h o
  collection_ends done tried h n o comes collects = record {
    seated = collects.seated;
    rests = collects.rests;
    same = record {
      position = collects.same.position ∙ comes.same.position;
      collector = collects.same.collector ∙ comes.same.collector;
    };
    pin =
        record { published = collects.pin.published ∙ comes.pin.published; read = collects.pin.read ∙ comes.pin.read };
    flushes = flushes_still h.machine n.machine o.machine _ _ _ _ collects.machine comes.flushes;
    ends = ap (λ (z : Machine (Job W)). z.stage) collects.machine
        ∙ ap (λ (a : Action). after_collect a n.machine.held) comes.flushes.action;
    calls = drives_on (IsCalled done tried) h.collector.now.places.capacity (begun Flush h.machine) n.machine o.machine
        (sight_of h) (sight_of n) (sight_of o)
        (drives_of (IsCalled done tried) h.collector.now.places.capacity (begun Flush h.machine) n.machine (sight_of h)
        (sight_of n) comes.drives)
        (subst (λ z. Drives (IsCalled done tried) z.now.places.capacity n.machine (sight_of n) o.machine (sight_of o))
        comes.same.collector collects.calls);
  }

  -- THE WHOLE

  -- a flush does what its machine asks for, and calls what it is given
  pub flush_does : (done : W → Type 0) (tried : Name → Type 0) (h o : Local T W) (m : Machine (Job W))
      → HasFlushed done tried h o
      → m ≡ ended o.machine
      → DoesAndCalls done tried h Flush (record o { machine = m })
  flush_does done tried h o m flushed is =
      record { last = o.machine; over = flushed.ends; machine = is; drives = flushed.calls }

  -- it stays pinned as it was, with its guards
  pub flush_ready : (done : W → Type 0) (tried : Name → Type 0) (h o : Local T W) (m : Machine (Job W))
      → IsReady h
      → 0 < h.machine.guards
      → HasFlushed done tried h o
      → m ≡ ended o.machine
      → IsReady (record o { machine = m })
  flush_ready done tried h o m ready out flushed is =
      let counted : m.guards ≡ h.machine.guards = ap (λ (z : Machine (Job W)). z.guards) is
      ∙ none_counted o.machine flushed.flushes.action ∙ flushed.flushes.guards in
      let still : m.published ≡ h.machine.published = ap (λ (z : Machine (Job W)). z.published) is
      ∙ flushed.flushes.published in
      let first = reading h.seat.me.0.first_read (ready.agrees.read out) in
      ready_with o m flushed.seated flushed.rests (ap (λ (z : Machine (Job W)). z.sizes) is)
      (ap (λ (z : Machine (Job W)). z.stage) is) (record {
        published = λ _. flushed.pin.published ∙ ready.agrees.published out ∙ ap (λ (k : ℕ). Some k) (sym still);
        read = λ _. (first.0, flushed.pin.read ∙ first.1);
        unpinned = λ none. absurd (omega arith);
      })
