-- A collection, bag by bag and job by job: what its loops perform is what the machine asks.
use Rattle.std.proofs.Common.{◌≡◌, ◌≢◌, ◌∙◌, ℕ, ◌+◌, ◌<◌, ◌==◌, if◌then◌else◌, Bool, true, false, List, [], ◌∷◌, ◌++◌}
use Rattle.std.proofs.Common.{length, refl, sym, ap, subst, arith, Option, Some, eq-eqb, ne_eqb}
use Rattle.epoch_bags.specs.Bags.{Sealed}
use Rattle.epoch_bags.specs.CursorSteps.{IsExpiredWord}
use Rattle.epoch_tables.specs.Table.{IsOf}
use Rattle.epoch_tables.specs.SharedPlaces.{PlaceMe, IsSamePlaceSeat, IsPlaceSeatOf as IsAt}
use Rattle.epoch_tables.specs.SharedSteps.{RestsAt, TakesAt, TakeMoves, Finds}
use Rattle.epoch_bags.specs.declared.queue.places.TakeCursor.{TakeCursor}
use Rattle.epoch_bags.specs.declared.queue.places.TakeCursor.TheVariants.{Look as TakeLook, Claim as TakeClaim}
use Rattle.epoch_bags.specs.declared.queue.places.PutCursor.TheVariants.{Look as PutLook}
use Rattle.epoch_bags.specs.declared.queue.TakeStep.{TakeStep}
use Rattle.epoch_bags.specs.declared.queue.TakeStep.TheVariants.{Again as TakeAgain, Empty as TakeEnds, Got}
use Rattle.epoch_cells.specs.declared.cells.name.Name.{Name}
use Rattle.epoch_bags.specs.Jobs.{IsCalled}
use Rattle.epoch_bags.specs.declared.job.Job.{Job}
use Rattle.epoch_machine.specs.declared.machine.Action.{Action}
use Rattle.epoch_machine.specs.declared.machine.Action.TheVariants.{Release}
use Rattle.epoch_machine.specs.declared.machine.Ask.{Ask}
use Rattle.epoch_machine.specs.declared.machine.Ask.TheVariants.{CallJob, TakeBag}
use Rattle.epoch_machine.specs.declared.machine.Stage.{Stage}
use Rattle.epoch_machine.specs.declared.machine.Stage.TheVariants.{Take, Calling}
use Rattle.epoch_handles.specs.declared.local.Local.{Local}
use Rattle.epoch_machine.specs.Machine.{Machine, asks, ask_at, gives, rest, after_job, after_collect, took_heard}
use Rattle.epoch_machine.specs.Machine.{is_taking, with_stage}
use Rattle.epoch_machine.specs.Asks.{Log, Exchange, JobGiven, TakeStepped}
use Rattle.epoch_handles.specs.Drives.{Sight, Cursors, Situation, Performed, GivesOnly, NoJob, situated, at_start}
use Rattle.epoch_handles.specs.Handles.{sight_of, situation_of, IsSame, Scans, CallsHand, HasTaken, TakesBags, Collects}
use Rattle.epoch_handles.proofs.Driving.{one_performed, performed_on, gives_on, gives_also}
use Rattle.epoch_machine.proofs.Stages.{nothing_given}

-- JOBS

module _ {J : Type 0} where
  -- the machine m with a bag taken for x after so many others, of which these jobs are left
  abbrev pub with_hand : Machine J → ℕ → ℕ → List J → Machine J
  with_hand m x k jobs = record m { stage = after_job m x k jobs; hand = jobs }

  -- calling the first job of the hand is what the machine has asked for
  call_performed : (places : ℕ) (m : Machine J) (v : Sight J) (c : Cursors) (x k : ℕ) (job : J) (jobs : List J)
      → Performed places (situated (with_hand m x k (job ∷ jobs)) v c)
      (record { ask = CallJob; reply = JobGiven job } ∷ []) (situated (with_hand m x k jobs) v c)
  call_performed places m v c x k job jobs =
      one_performed places _ _ _ (record { asked = refl; is_reply = refl; performs = (refl, refl); machine = refl })

-- a hand that begins with this job
pub begins_with : {J : Type 0} (hand : List J) (job : J) (later : List J)
    → hand ≡ job ∷ later → hand ≡ job ∷ rest hand
begins_with hand job later is = is ∙ ap (λ jobs. job ∷ jobs) (sym (ap rest is))

-- the call of a job leaves the others in the hand
hand_given : {J : Type 0} (m : Machine J) (s : Stage) (jobs : List J)
    → ask_at s ≡ Some CallJob → (gives m s jobs).hand ≡ jobs
hand_given m (Calling x k) jobs asked = refl
hand_given m _ jobs asked = absurd (cc asked)

-- a job that is given leaves one job fewer in the hand
pub one_fewer : {J : Type 0} (m n : Machine J) (job : J)
    → asks m ≡ Some CallJob → m.hand ≡ job ∷ rest m.hand → n ≡ gives m m.stage (rest m.hand)
    → length n.hand < length m.hand
one_fewer m n job asked first is =
    let left : n.hand ≡ rest m.hand =
    ap (λ (z : Machine _). z.hand) is ∙ hand_given m m.stage (rest m.hand) asked in
    omega (arith, ap length left, ap length first)

-- where no call is asked for, none is left
nothing_left : {J : Type 0} (m : Machine J) (x k : ℕ) (jobs : List J)
    → ask_at (after_job m x k jobs) ≢ Some CallJob → jobs ≡ []
nothing_left m x k [] none = refl
nothing_left m x k (job ∷ jobs) none = absurd (none refl)

-- of the jobs in hand these are left, and the others were called
pub record HasCalled {T W : Type 0} (done : W → Type 0) (tried : Name → Type 0) (h : Local T W) (x k : ℕ)
    (n : Local T W) : Type 0 where
  pub machine : n.machine ≡ with_hand h.machine x k n.machine.hand
  pub performed : (c : Cursors) → (log : Log (Job W))
      × Performed h.collector.now.places.capacity (situation_of h c) log (situated n.machine (sight_of h) c)
      × GivesOnly (IsCalled done tried) log

module _ {T W : Type 0} where
  -- one more job of the hand was called, and the others are left in it
  pub one_more_called : (done : W → Type 0) (tried : Name → Type 0) (h n : Local T W) (x k : ℕ) (job : Job W)
      (m : Machine (Job W))
      → HasCalled done tried h x k n
      → n.machine.hand ≡ job ∷ rest n.machine.hand
      → m ≡ gives n.machine n.machine.stage (rest n.machine.hand)
      → IsCalled done tried job
      → HasCalled done tried h x k (record h { machine = m })
  one_more_called done tried h n x k job m called first is ran =
      let jobs = rest n.machine.hand in
      let was : n.machine ≡ with_hand h.machine x k (job ∷ jobs) = called.machine
      ∙ ap (λ (js : List (Job W)). with_hand h.machine x k js) first in
      let goes : m ≡ with_hand h.machine x k jobs = is ∙ ap (λ (z : Machine (Job W)). gives z z.stage jobs) was in
      let left : m.hand ≡ jobs = ap (λ (z : Machine (Job W)). z.hand) goes in
      record {
        machine = goes ∙ ap (λ (js : List (Job W)). with_hand h.machine x k js) (sym left);
        performed = λ c. (
          (called.performed c).0 ++ record { ask = CallJob; reply = JobGiven job } ∷ [],
          performed_on h.collector.now.places.capacity (situation_of h c) (situated n.machine (sight_of h) c)
              (situated m (sight_of h) c) (called.performed c).0 _ (called.performed c).1
              (subst (λ (z : Machine (Job W)). Performed h.collector.now.places.capacity
              (situated n.machine (sight_of h) c) (record { ask = CallJob; reply = JobGiven job } ∷ [])
              (situated z (sight_of h) c)) (sym goes)
              (subst (λ (z : Machine (Job W)). Performed h.collector.now.places.capacity
              (situated z (sight_of h) c) (record { ask = CallJob; reply = JobGiven job } ∷ [])
              (situated (with_hand h.machine x k jobs) (sight_of h) c)) (sym was)
              (call_performed h.collector.now.places.capacity h.machine (sight_of h) c x k job jobs))),
          gives_on (IsCalled done tried) (called.performed c).0 (record { ask = CallJob; reply = JobGiven job } ∷ [])
              (called.performed c).2 (ran, tt),
        );
      }

  -- a machine that asks for no further call has called the whole hand
  pub all_called : (done : W → Type 0) (tried : Name → Type 0) (h n : Local T W) (x k : ℕ) (m : Machine (Job W))
      → HasCalled done tried h x k n
      → asks n.machine ≢ Some CallJob
      → m ≡ gives n.machine n.machine.stage (rest n.machine.hand)
      → CallsHand done tried h x k (record h { machine = m })
  all_called done tried h n x k m called none is =
      let empty : n.machine.hand ≡ [] = nothing_left h.machine x k n.machine.hand
      (λ asked. none (ap (λ (z : Machine (Job W)). ask_at z.stage) called.machine ∙ asked)) in
      let was : n.machine ≡ with_hand h.machine x k [] = called.machine
      ∙ ap (λ (js : List (Job W)). with_hand h.machine x k js) empty in
      let same : m ≡ n.machine = is ∙ sym (nothing_given n.machine n.machine refl (λ x k at. none (ap ask_at at))) in
      record {
        machine = same ∙ was;
        performed = λ c. (
          (called.performed c).0,
          subst (λ (z : Machine (Job W)). Performed h.collector.now.places.capacity (situation_of h c)
              (called.performed c).0 (situated z (sight_of h) c)) (sym same) (called.performed c).1,
          (called.performed c).2,
        );
      }

-- BAGS

-- the epoch of the collection that is asked for
expiry_of : Option Ask → ℕ
expiry_of (Some (TakeBag x)) = x
expiry_of _ = 0

-- two equal asks for a bag are for bags as old
pub one_bag_asked : (x y : ℕ) → Some (TakeBag x) ≡ Some (TakeBag y) → x ≡ y
unfolding expiry_of
one_bag_asked x y same = ap expiry_of same

-- a collection stops where its stage is another than that of a look for bags
stops : {J : Type 0} (a : Action) (held : List J) → is_taking (after_collect a held) ≡ false
stops Release [] = refl
stops _ _ = refl

-- a machine that still takes after the calls of a hand takes at the next place
goes_on_at : {J : Type 0} (a : Action) (held : List J) (last : Bool) (x k : ℕ)
    → is_taking (if last then after_collect a held else Take x k) ≡ true
    → (if last then after_collect a held else Take x k) ≡ Take x k
goes_on_at a held true x k takes = absurd (cc (stops a held, takes))
goes_on_at a held false x k takes = refl

-- and one that takes no more has ended its collection
stops_at : {J : Type 0} (a : Action) (held : List J) (last : Bool) (x k : ℕ)
    → is_taking (if last then after_collect a held else Take x k) ≡ false
    → (if last then after_collect a held else Take x k) ≡ after_collect a held
stops_at a held true x k stopped = refl
stops_at a held false x k stopped = absurd (cc (stopped))

-- the stage after a bag got is that of its jobs
pub got_stage : {J : Type 0} (m n : Machine J) (x k : ℕ) → n ≡ with_hand m x k n.hand → n.stage ≡ after_job n x k n.hand
got_stage m n x k is = ap (λ (z : Machine _). z.stage) is ∙ sym (ap (λ (z : Machine _). after_job z x k n.hand) is)

-- a seat that found a word rests as before
still_rests : {J : Type 0} (place : ℕ) (before after : PlaceMe J) (word : ℕ)
    → Finds place before word after → RestsAt before → RestsAt after
still_rests place before after word finds rests =
    (ap (λ (me : PlaceMe _). me.0.claimed) finds ∙ rests.0, ap (λ (me : PlaceMe _). me.1) finds ∙ rests.1)

module _ {T W : Type 0} where
  -- what one step of the collection performs
  take_performed : (done : W → Type 0) (tried : Name → Type 0) (h n : Local T W) (x : ℕ) (cursor next : TakeCursor)
      (step : TakeStep)
      (m : Machine (Job W)) (me : PlaceMe (Job W)) (bag : Sealed (Job W))
      → (taken : HasTaken done tried h x cursor n)
      → m ≡ took_heard n.machine n.machine.stage step m.hand
      → (step ≡ Got → m.hand ≡ bag.jobs)
      → TakeMoves h.collector.now.places.capacity x cursor n.claimer.me step next me bag
      → (log : Log (Job W))
      × Performed h.collector.now.places.capacity (situation_of h at_start) log
      (situated m (record { words = n.seat.me.0; places = me }) (record { put = PutLook 0; take = next }))
      × GivesOnly (IsCalled done tried) log
  take_performed done tried h n x cursor next step m me bag taken after jobs moves =
      let exchange : Exchange (Job W) = record { ask = TakeBag x; reply = TakeStepped step m.hand } in
      let between : Situation (Job W) = situation_of n (record { put = PutLook 0; take = cursor }) in
      let last : Situation (Job W) = situated m (record { words = n.seat.me.0; places = me })
      (record { put = PutLook 0; take = next }) in (
        taken.performed.0 ++ exchange ∷ [],
        performed_on h.collector.now.places.capacity (situation_of h at_start) between last taken.performed.0
            (exchange ∷ []) taken.performed.1
            (one_performed h.collector.now.places.capacity between last exchange (record {
              asked = ap (λ (z : Machine (Job W)). ask_at z.stage) taken.machine;
              is_reply = tt;
              performs = (refl, refl, (bag, jobs, moves));
              machine = after;
            })),
        gives_on (IsCalled done tried) taken.performed.0 (exchange ∷ []) taken.performed.2 (tt, tt),
      )

  -- a collection that begins has taken nothing yet, and looks at the first place first
  pub take_begins : (done : W → Type 0) (tried : Name → Type 0) (h : Local T W) (x : ℕ) (cursor : TakeCursor)
      → h.machine.stage ≡ Take x 0
      → IsAt h.collector.now.places h.claimer
      → cursor ≡ TakeLook 0
      → TakesAt h.collector.now.places.capacity x cursor h.claimer.me
      → HasTaken done tried h x cursor h
  take_begins done tried h x cursor begins is_at first at = record {
    taken = 0;
    machine = ap (λ (s : Stage). record h.machine { stage = s }) begins;
    claimer = is_at;
    at = at;
    seat = refl;
    same = record { position = refl; collector = refl };
    performed = ([], ap (λ (z : TakeCursor). situation_of h (record { put = PutLook 0; take = z })) first, tt);
  }

  -- a machine that looks for a bag is as it was after a step that got none
  waits_on : (h n : Local T W) (x taken : ℕ)
      → n.machine ≡ record h.machine { stage = Take x taken; hand = n.machine.hand }
      → n.machine ≡ took_heard n.machine n.machine.stage TakeAgain n.machine.hand
  waits_on h n x taken looks = sym (ap (λ (s : Stage). took_heard n.machine s TakeAgain n.machine.hand)
      (ap (λ (z : Machine (Job W)). z.stage) looks))

  -- it goes on
  pub take_again : (done : W → Type 0) (tried : Name → Type 0) (h n : Local T W) (x : ℕ) (cursor next : TakeCursor)
      (m : Machine (Job W))
      (claimer : _) (bag : Sealed (Job W))
      → (taken : HasTaken done tried h x cursor n)
      → m ≡ took_heard n.machine n.machine.stage TakeAgain m.hand
      → IsAt h.collector.now.places claimer
      → TakesAt h.collector.now.places.capacity x next claimer.me
      → TakeMoves h.collector.now.places.capacity x cursor n.claimer.me TakeAgain next claimer.me bag
      → HasTaken done tried h x next (record n { claimer = claimer; machine = m })
  take_again done tried h n x cursor next m claimer bag taken after is_at at moves =
      let same : m ≡ n.machine = after ∙ ap (λ (s : Stage). took_heard n.machine s TakeAgain m.hand)
      (ap (λ (z : Machine (Job W)). z.stage) taken.machine) in
      record {
        taken = taken.taken;
        machine = same ∙ taken.machine
            ∙ ap (λ (z : Machine (Job W)). record h.machine { stage = Take x taken.taken; hand = z.hand }) (sym same);
        claimer = is_at;
        at = at;
        seat = taken.seat;
        same = record { position = taken.same.position; collector = taken.same.collector };
        performed =
            take_performed done tried h n x cursor next TakeAgain m claimer.me bag taken after (λ got. absurd (cc got))
            moves;
      }

  -- the word found at a place that isn't the last one tells of no expired bag
  pub look_passes : (done : W → Type 0) (tried : Name → Type 0) (h n : Local T W) (x place word : ℕ) (claimer : _)
      → HasTaken done tried h x (TakeLook place) n
      → place + 1 < h.collector.now.places.capacity
      → IsAt h.collector.now.places claimer
      → Finds place n.claimer.me word claimer.me
      → ¬ IsExpiredWord x word
      → HasTaken done tried h x (TakeLook (place + 1)) (record n { claimer = claimer })
  look_passes done tried h n x place word claimer taken within is_at finds late =
      let goes_on : TakeAgain ≡ (if place + 1 == h.collector.now.places.capacity then TakeEnds else TakeAgain) =
      sym (ap (λ (b : Bool). if b then TakeEnds else TakeAgain)
      (ne_eqb (place + 1) h.collector.now.places.capacity (λ is. absurd (omega (arith, is, within))))) in
      take_again done tried h n x (TakeLook place) (TakeLook (place + 1)) n.machine claimer
      (record { seal = 0; jobs = [] }) taken
      (waits_on h n x taken.taken taken.machine) is_at
      (omega (arith, within), still_rests place n.claimer.me claimer.me word finds taken.at.1) (
        (λ last. absurd (omega (arith, last, within))),
        (λ not. (word, finds, (λ expired. absurd (late expired)), (λ is. (refl, goes_on)))),
      )

  -- the word found at a place is that of an expired bag
  pub look_finds : (done : W → Type 0) (tried : Name → Type 0) (h n : Local T W) (x place word : ℕ) (claimer : _)
      → HasTaken done tried h x (TakeLook place) n
      → place < h.collector.now.places.capacity
      → IsAt h.collector.now.places claimer
      → Finds place n.claimer.me word claimer.me
      → IsExpiredWord x word
      → HasTaken done tried h x (TakeClaim place word) (record n { claimer = claimer })
  look_finds done tried h n x place word claimer taken within is_at finds expired =
      take_again done tried h n x (TakeLook place) (TakeClaim place word) n.machine claimer
      (record { seal = 0; jobs = [] }) taken
      (waits_on h n x taken.taken taken.machine) is_at
      (within, expired, still_rests place n.claimer.me claimer.me word finds taken.at.1) (
        (λ last. absurd (omega (arith, last, within))),
        (λ not. (word, finds, (λ is. (refl, refl)), (λ late. absurd (late expired)))),
      )

  -- no further bag is found
  pub take_ends : (done : W → Type 0) (tried : Name → Type 0) (h n : Local T W) (x : ℕ) (cursor next : TakeCursor)
      (m : Machine (Job W))
      (claimer : _) (bag : Sealed (Job W))
      → (taken : HasTaken done tried h x cursor n)
      → m ≡ took_heard n.machine n.machine.stage TakeEnds m.hand
      → IsAt h.collector.now.places claimer
      → RestsAt claimer.me
      → TakeMoves h.collector.now.places.capacity x cursor n.claimer.me TakeEnds next claimer.me bag
      → TakesBags done tried h (record n { claimer = claimer; machine = m })
  take_ends done tried h n x cursor next m claimer bag taken after is_at rests moves =
      let ends : m ≡ with_stage n.machine (after_collect n.machine.action n.machine.held) =
      after ∙ ap (λ (s : Stage). took_heard n.machine s TakeEnds m.hand)
      (ap (λ (z : Machine (Job W)). z.stage) taken.machine) in
      let steps = take_performed done tried h n x cursor next TakeEnds m claimer.me bag taken after
      (λ got. absurd (cc got)) moves in
      record {
        claimer = is_at;
        rests = rests;
        seat = taken.seat;
        same = record { position = taken.same.position; collector = taken.same.collector };
        machine = ends ∙ ap (λ (z : Machine (Job W)). with_stage z (after_collect z.action z.held)) taken.machine
            ∙ ap (λ (js : List (Job W)).
            record h.machine { stage = after_collect h.machine.action h.machine.held; hand = js })
            (sym (ap (λ (z : Machine (Job W)). z.hand) ends));
        performed = (record { put = PutLook 0; take = next }, steps.0, steps.1, steps.2);
      }

  -- the word found at the last place tells of no expired bag
  pub look_ends : (done : W → Type 0) (tried : Name → Type 0) (h n : Local T W) (x place word : ℕ) (m : Machine (Job W))
      (claimer : _)
      → (taken : HasTaken done tried h x (TakeLook place) n)
      → place + 1 ≡ h.collector.now.places.capacity
      → m ≡ with_stage n.machine (after_collect n.machine.action n.machine.held)
      → IsAt h.collector.now.places claimer
      → Finds place n.claimer.me word claimer.me
      → ¬ IsExpiredWord x word
      → TakesBags done tried h (record n { claimer = claimer; machine = m })
  look_ends done tried h n x place word m claimer taken last after is_at finds late =
      let ends : TakeEnds ≡ (if place + 1 == h.collector.now.places.capacity then TakeEnds else TakeAgain) =
      sym (ap (λ (b : Bool). if b then TakeEnds else TakeAgain)
      (eq-eqb (place + 1) h.collector.now.places.capacity last)) in
      let heard : m ≡ took_heard n.machine n.machine.stage TakeEnds m.hand =
      after ∙ sym (ap (λ (s : Stage). took_heard n.machine s TakeEnds m.hand)
      (ap (λ (z : Machine (Job W)). z.stage) taken.machine)) in
      take_ends done tried h n x (TakeLook place) (TakeLook (place + 1)) m claimer (record { seal = 0; jobs = [] })
      taken heard is_at (still_rests place n.claimer.me claimer.me word finds taken.at.1) (
        (λ none. absurd (omega (arith, none, last))),
        (λ not. (word, finds, (λ expired. absurd (late expired)), (λ is. (refl, ends)))),
      )

  -- a bag is got, which is in hand then
  pub take_got : (h n : Local T W) (x k : ℕ) (m : Machine (Job W))
      → n.machine ≡ record h.machine { stage = Take x k; hand = n.machine.hand }
      → m ≡ took_heard n.machine n.machine.stage Got m.hand
      → m ≡ with_hand h.machine x k m.hand
  take_got h n x k m was after =
      after ∙ ap (λ (z : Machine (Job W)). took_heard z z.stage Got m.hand) was

  -- after a bag got, whose jobs were called
  pub record HasCalledBag (done : W → Type 0) (tried : Name → Type 0) (h : Local T W) (x k : ℕ) (next : TakeCursor)
      (w : Local T W) : Type 0 where
    pub machine : w.machine ≡ with_hand h.machine x k []
    pub claimer : IsAt h.collector.now.places w.claimer
    pub at : TakesAt h.collector.now.places.capacity x next w.claimer.me
    pub rests : RestsAt w.claimer.me
    pub seat : w.seat ≡ h.seat
    pub same : IsSame h w
    pub performed : (log : Log (Job W))
        × Performed h.collector.now.places.capacity (situation_of h at_start) log
        (situation_of w (record { put = PutLook 0; take = next }))
        × GivesOnly (IsCalled done tried) log

  -- a bag that was taken and called is one more of the collection
  pub bag_called : (done : W → Type 0) (tried : Name → Type 0) (h n w : Local T W) (x : ℕ) (cursor next : TakeCursor)
      (m : Machine (Job W))
      (claimer : _) (bag : Sealed (Job W))
      → (taken : HasTaken done tried h x cursor n)
      → m ≡ took_heard n.machine n.machine.stage Got m.hand
      → m.hand ≡ bag.jobs
      → IsAt h.collector.now.places claimer
      → TakesAt h.collector.now.places.capacity x next claimer.me
      → RestsAt claimer.me
      → TakeMoves h.collector.now.places.capacity x cursor n.claimer.me Got next claimer.me bag
      → w ≡ record n { claimer = claimer; machine = w.machine }
      → CallsHand done tried (record n { claimer = claimer; machine = m }) x taken.taken w
      → HasCalledBag done tried h x taken.taken next w
  bag_called done tried h n w x cursor next m claimer bag taken after jobs is_at at rests moves only calls =
      let got = take_got h n x taken.taken m taken.machine after in
      let steps = take_performed done tried h n x cursor next Got m claimer.me bag taken after (λ _. jobs) moves in
      let cursors : Cursors = record { put = PutLook 0; take = next } in
      let sight : Sight (Job W) = record { words = n.seat.me.0; places = claimer.me } in
      let called = subst (λ z. (log : Log (Job W)) × Performed z.now.places.capacity (situated m sight cursors) log
      (situated w.machine sight cursors) × GivesOnly (IsCalled done tried) log)
      taken.same.collector (calls.performed cursors) in
      record {
        machine = calls.machine ∙ ap (λ (z : Machine (Job W)). with_hand z x taken.taken []) got;
        claimer = subst (λ z. IsAt h.collector.now.places z.claimer) (sym only) is_at;
        at = subst (λ z. TakesAt h.collector.now.places.capacity x next z.claimer.me) (sym only) at;
        rests = subst (λ z. RestsAt z.claimer.me) (sym only) rests;
        seat = ap (λ (z : Local T W). z.seat) only ∙ taken.seat;
        same = record {
          position = ap (λ (z : Local T W). z.position) only ∙ taken.same.position;
          collector = ap (λ (z : Local T W). z.collector) only ∙ taken.same.collector;
        };
        performed = (
          steps.0 ++ called.0,
          subst (λ (z : Local T W). Performed h.collector.now.places.capacity (situation_of h at_start)
              (steps.0 ++ called.0) (situated w.machine (sight_of z) cursors)) (sym only)
              (performed_on h.collector.now.places.capacity (situation_of h at_start) (situated m sight cursors)
              (situated w.machine sight cursors) steps.0 called.0 steps.1 called.1),
          gives_on (IsCalled done tried) steps.0 called.0 steps.2 called.2,
        );
      }

  -- the same of the step as its call tells of it
  pub hand_called : (done : W → Type 0) (tried : Name → Type 0) (h n w : Local T W) (x : ℕ) (cursor next : TakeCursor)
      (step : TakeStep)
      (m : Machine (Job W)) (claimer : _)
      → (taken : HasTaken done tried h x cursor n)
      → step ≡ Got
      → m ≡ took_heard n.machine n.machine.stage step m.hand
      → IsSamePlaceSeat n.claimer claimer
      → ((y : ℕ) → asks n.machine ≡ Some (TakeBag y) → TakesAt n.collector.now.places.capacity y next claimer.me)
      → (step ≢ TakeAgain → RestsAt claimer.me)
      → ((y : ℕ) → asks n.machine ≡ Some (TakeBag y) → (bag : Sealed (Job W)) × (step ≡ Got → m.hand ≡ bag.jobs)
      × TakeMoves n.collector.now.places.capacity y cursor n.claimer.me step next claimer.me bag)
      → w ≡ record n { claimer = claimer; machine = w.machine }
      → ((y k : ℕ) → m.stage ≡ after_job m y k m.hand
      → CallsHand done tried (record n { claimer = claimer; machine = m }) y k w)
      → HasCalledBag done tried h x taken.taken next w
  hand_called done tried h n w x cursor next step m claimer taken got told kept at rests moves only calls =
      let asked = ap (λ (z : Machine (Job W)). ask_at z.stage) taken.machine in
      let moved = moves x asked in
      let after = subst (λ (s : TakeStep). m ≡ took_heard n.machine n.machine.stage s m.hand) got told in
      bag_called done tried h n w x cursor next m claimer moved.0 taken after (moved.1 got) (kept.0 ∙ taken.claimer)
      (subst (λ z. TakesAt z.now.places.capacity x next claimer.me) taken.same.collector (at x asked))
      (rests (λ again. absurd (cc (got, again))))
      (subst (λ (s : TakeStep).
      TakeMoves h.collector.now.places.capacity x cursor n.claimer.me s next claimer.me moved.0) got
      (subst (λ z. TakeMoves z.now.places.capacity x cursor n.claimer.me step next claimer.me moved.0)
      taken.same.collector moved.2))
      only (calls x taken.taken
      (got_stage h.machine m x taken.taken (take_got h n x taken.taken m taken.machine after)))

  -- a further bag is looked for
  pub next_bag : (done : W → Type 0) (tried : Name → Type 0) (h w : Local T W) (x k : ℕ) (next : TakeCursor)
      → HasCalledBag done tried h x k next w → is_taking w.machine.stage ≡ true → HasTaken done tried h x next w
  next_bag done tried h w x k next called takes =
      let stage = goes_on_at h.machine.action h.machine.held (k + 1 == h.machine.sizes.collect_bags) x (k + 1)
      (sym (ap (λ (z : Machine (Job W)). is_taking z.stage) called.machine) ∙ takes) in
      let goes = called.machine ∙ ap (λ (s : Stage). record h.machine { stage = s; hand = [] }) stage in
      record {
        taken = k + 1;
        machine = goes ∙ ap (λ (js : List (Job W)). record h.machine { stage = Take x (k + 1); hand = js })
            (sym (ap (λ (z : Machine (Job W)). z.hand) goes));
        claimer = called.claimer;
        at = called.at;
        seat = called.seat;
        same = called.same;
        performed = called.performed;
      }

  -- as many bags were taken as a collection takes
  pub last_bag : (done : W → Type 0) (tried : Name → Type 0) (h w : Local T W) (x k : ℕ) (next : TakeCursor)
      → HasCalledBag done tried h x k next w → is_taking w.machine.stage ≡ false → TakesBags done tried h w
  last_bag done tried h w x k next called stopped =
      let stage = stops_at h.machine.action h.machine.held (k + 1 == h.machine.sizes.collect_bags) x (k + 1)
      (sym (ap (λ (z : Machine (Job W)). is_taking z.stage) called.machine) ∙ stopped) in
      let goes = called.machine ∙ ap (λ (s : Stage). record h.machine { stage = s; hand = [] }) stage in
      record {
        claimer = called.claimer;
        rests = called.rests;
        seat = called.seat;
        same = called.same;
        machine = goes ∙ ap (λ (js : List (Job W)).
            record h.machine { stage = after_collect h.machine.action h.machine.held; hand = js })
            (sym (ap (λ (z : Machine (Job W)). z.hand) goes));
        performed =
            (record { put = PutLook 0; take = next }, called.performed.0, called.performed.1, called.performed.2);
      }

  -- THE WHOLE

  -- a scan, and the bags taken after it
  pub collected : (done : W → Type 0) (tried : Name → Type 0) (h n o : Local T W) (x : ℕ) → Scans h x n → TakesBags
      done tried n o → Collects done tried h o
  collected done tried h n o x scans takes =
      let same_table = scans.same.collector in
      record {
        seated = record {
          words_of = subst (λ seat. IsOf o.collector.now.participants seat) (sym takes.seat)
              (subst (λ z. IsOf z.now.participants n.seat) (sym takes.same.collector) scans.seated.words_of);
          places_of = subst (λ z. IsAt z.now.places o.claimer) (sym takes.same.collector) takes.claimer;
          own = (
            ap (λ seat. seat.me.0.position) takes.seat ∙ scans.seated.own.0
                ∙ ap (λ (k : ℕ). Some k) (sym takes.same.position),
            subst (λ z. o.position < z.now.participants.positions) (sym takes.same.collector) (subst (λ (k : ℕ).
                k < n.collector.now.participants.positions) (sym takes.same.position) scans.seated.own.1),
          );
          sizes = ap (λ (z : Machine (Job W)). z.sizes) takes.machine ∙ scans.seated.sizes
              ∙ sym (ap (λ z. z.now.sizes) takes.same.collector);
          positions = subst (λ z. z.now.sizes.positions ≡ z.now.participants.positions)
              (sym takes.same.collector) scans.seated.positions;
        };
        rests = takes.rests;
        same = record {
          position = takes.same.position ∙ scans.same.position;
          collector = takes.same.collector ∙ scans.same.collector;
        };
        pin = record {
          published = ap (λ seat. seat.me.0.published) takes.seat ∙ scans.pin.published;
          read = ap (λ seat. seat.me.0.first_read) takes.seat ∙ scans.pin.read;
        };
        machine = takes.machine ∙ ap (λ (z : Machine (Job W)).
            record z { stage = after_collect z.action z.held; hand = o.machine.hand }) scans.machine;
        calls = λ c. let first = scans.reaches c in
            let second = subst (λ z. (d : Cursors) × (log : Log (Job W)) × Performed z.now.places.capacity
            (situation_of n at_start) log (situation_of o d) × GivesOnly (IsCalled done tried) log)
            same_table takes.performed in (
              second.0,
              first.0 ++ second.1,
              performed_on h.collector.now.places.capacity (situation_of h c) (situation_of n at_start)
                  (situation_of o second.0) first.0 second.1 first.1 second.2,
              gives_on (IsCalled done tried) first.0 second.1
                  (gives_also NoJob (IsCalled done tried) (λ job none. absurd none) first.0 first.2) second.3,
            );
      }
