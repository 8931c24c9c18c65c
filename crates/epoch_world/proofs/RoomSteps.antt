-- What a participant's step tells of the room of its put, and which places without a bag it leaves claimed.
use Rattle.std.proofs.Common.{◌≡◌, ◌≢◌, ℕ, suc, ◌<◌, Bool, true, false, not, List, [], ◌∷◌, length, Option, Some, None}
use Rattle.std.proofs.Common.{◌⊎◌, inl, inr, refl, ap, sym, subst, ◌∙◌, arith, slice_get, slice_index_or, slice_set}
use Rattle.std.proofs.Common.{get_or-set_same}
use Rattle.epoch_bags.specs.Stores.{how_many, FindsRoom}
use Rattle.epoch_bags.specs.declared.queue.PutStep.{PutStep}
use Rattle.epoch_bags.specs.declared.queue.PutStep.TheVariants.{Again, Done, Full}
use Rattle.epoch_machine.specs.declared.machine.Ask.{Ask}
use Rattle.epoch_machine.specs.declared.machine.Ask.TheVariants.{LoadEpoch, PutBag, TakeBag}
use Rattle.epoch_machine.specs.declared.machine.Sizes.{Sizes}
use Rattle.epoch_machine.specs.declared.machine.Stage.{Stage}
use Rattle.epoch_machine.specs.declared.machine.Stage.TheVariants.{Take, Put}
use Rattle.epoch_machine.specs.Machine.{Machine, ask_at, asks, is_taking, put_heard}
use Rattle.epoch_laws.specs.declared.step.Deferral.{Deferral}
use Rattle.epoch_laws.specs.declared.step.Progress.{Progress}
use Rattle.epoch_laws.specs.declared.step.Progress.TheVariants.{Driven}
use Rattle.epoch_laws.specs.declared.step.Word.{Word}
use Rattle.epoch_laws.specs.declared.step.Word.TheVariants.{Free, Unpinned, Pinned}
use Rattle.epoch_laws.specs.Collections.{OwnClaims, LeavesClaims}
use Rattle.epoch_laws.specs.Room.{is_putting, is_at_places, PutTellsRoom, TellsRoom, OwnReserves, OwnPlaces, MayReserve}
use Rattle.epoch_laws.specs.Run.{WorldSeat, State, HasFreePlace, seat_of, is_driven, turn_at, turn_of, free_seat}
use Rattle.epoch_laws.specs.Run.{with_places}
use Rattle.epoch_world.specs.Worlds.{ReservesKnown}
use Rattle.epoch_laws.proofs.SeatLemmas.{same_or_other}
use Rattle.epoch_laws.proofs.LonePuts.{none_putting}
use Rattle.epoch_world.proofs.CollectionSteps.{taking_asks, not_both, turn_driven, get_set_same, nobody_there}
use Rattle.epoch_world.proofs.CollectionSteps.{nobody_before, nobody_quiet}

-- A FREE PLACE

-- where a bag stands at each occupied place, and fewer stand than there are places, some place is free
free_place : (occupied standing : List Bool)
    → ((place : ℕ) → slice_get occupied place ≡ Some true → slice_get standing place ≡ Some true)
    → how_many standing < length occupied → (place : ℕ) × (slice_get occupied place ≡ Some false)
free_place [] standing stands fewer = absurd (omega arith)
free_place (false ∷ occupied) standing stands fewer = (0, refl)
free_place (true ∷ occupied) [] stands fewer = absurd (cc (stands 0 refl))
free_place (true ∷ occupied) (false ∷ standing) stands fewer = absurd (cc (stands 0 refl))
free_place (true ∷ occupied) (true ∷ standing) stands fewer =
    let more = free_place occupied standing (λ place at. stands (suc place) at) (omega (arith, fewer)) in
    (suc more.0, more.1)

-- a put that begins while nobody claims a place, and fewer bags than places stand there, will find one
pub room_at_first : (Reserved : ℕ → Type 0) (occupied standing : List Bool) (bags : ℕ) (room : Bool)
    → how_many standing ≡ bags
    → ((place : ℕ) → slice_get occupied place ≡ Some true → (slice_get standing place ≡ Some true) ⊎ Reserved place)
    → ((place : ℕ) → slice_get occupied place ≡ Some false → room ≡ true)
    → ((place : ℕ) → ¬ (Reserved place)) × (bags < length occupied) → room ≡ true
room_at_first Reserved occupied standing bags room same stands finds (none, fewer) =
    let free = free_place occupied standing (λ place at. bag_there place (stands place at)) (omega (arith, same)) in
    finds free.0 free.1
  where
    bag_there : (place : ℕ) → (slice_get standing place ≡ Some true) ⊎ Reserved place
        → slice_get standing place ≡ Some true
    bag_there place (inl bag) = bag
    bag_there place (inr claimed) = absurd (none place claimed)

-- ONE STEP OF A PUT

asks_putting : (s : Stage) (seal : ℕ) → ask_at s ≡ Some (PutBag seal) → is_putting s ≡ true
asks_putting (Put e) seal asked = refl
asks_putting _ seal asked = absurd (cc (asked))

putting_asks : (s : Stage) → is_putting s ≡ true → (seal : ℕ) × (ask_at s ≡ Some (PutBag seal))
putting_asks (Put e) putting = (e, refl)
putting_asks _ putting = absurd (cc (putting))

module _ (seal : ℕ) (m n : Machine Deferral) (asked : asks m ≡ Some (PutBag seal)) where
  still_puts : n ≡ put_heard m Again → is_putting n.stage ≡ true
  still_puts heard = ap (λ (q : Machine Deferral). is_putting q.stage) heard ∙ asks_putting m.stage seal asked

  -- a step on a place tells whether the put will find one
  pub put_told : (step : PutStep) (room room' : Bool)
      → n ≡ put_heard m step → FindsRoom room step room' → PutTellsRoom n room room'
  put_told Again room room' heard finds =
      record { kept = λ on. finds; told = λ off. absurd (not_both _ (still_puts heard) off) }
  put_told Done room room' heard finds = record {
    kept = λ on.
        absurd (not_both _ on (ap (λ (q : Machine Deferral). is_putting q.stage) heard ∙ none_putting m.action false));
    told = λ off. ap (λ (q : Machine Deferral). q.full) heard ∙ sym (ap not finds);
  }
  put_told Full room room' heard finds = record {
    kept = λ on.
        absurd (not_both _ on (ap (λ (q : Machine Deferral). is_putting q.stage) heard ∙ none_putting m.action true));
    told = λ off. ap (λ (q : Machine Deferral). q.full) heard ∙ sym (ap not finds);
  }

  -- a put that has ended leaves no claim of its own
  pub put_reserves : (step : PutStep) (Reserved Reserves Reserved' Reserves' : ℕ → Type 0) → n ≡ put_heard m step
      → ((place : ℕ) → Reserved' place → Reserves' place ⊎ (Reserved place × (¬ (Reserves place))))
      → (step ≢ Again → (place : ℕ) → ¬ (Reserves' place))
      → LeavesClaims Reserved Reserves Reserved' (OwnReserves n.stage Reserves')
  put_reserves step Reserved Reserves Reserved' Reserves' heard reserves lets_go place not_own reserved =
      elim (reserves place reserved) [
        | inl own ↦ absurd (by_step step heard lets_go own)
        | inr others ↦ others
      ]
    where
      by_step : (step : PutStep)
          → n ≡ put_heard m step → (step ≢ Again → (place : ℕ) → ¬ (Reserves' place)) → Reserves' place → ⊥
      by_step Again heard goes own = not_own (still_puts heard, own)
      by_step Done heard goes own = goes (λ e. cc (e)) place own
      by_step Full heard goes own = goes (λ e. cc (e)) place own

-- so a step of a put tells of its room
pub tells_put : (Open : Type 0) (ask : Ask) (seal : ℕ) (n : Machine Deferral) (room room' : Bool)
    → ask ≡ PutBag seal → PutTellsRoom n room room' → TellsRoom Open (Some ask) n room room'
tells_put Open ask seal n room room' is tells = subst (λ (a : Ask). TellsRoom Open (Some a) n room room') (sym is) tells

module _ (s : Stage) (Reserved Reserves Claims Reserved' Reserves' Claims' : ℕ → Type 0) where
  -- a step of a put claims places for the put alone
  pub may_put : (ask : Ask) (seal : ℕ)
      → ask ≡ PutBag seal → LeavesClaims Reserved Reserves Reserved' (OwnReserves s Reserves')
      → MayReserve ask s Reserved Reserves Claims Reserved' Reserves' Claims'
  may_put ask seal is leaves =
      subst (λ (a : Ask). MayReserve a s Reserved Reserves Claims Reserved' Reserves' Claims') (sym is) leaves

  -- and a step of a collection claims them for the collection alone
  pub may_take : (ask : Ask) (x : ℕ) → ask ≡ TakeBag x → LeavesClaims Reserved Claims Reserved' (OwnClaims s Claims')
      → MayReserve ask s Reserved Reserves Claims Reserved' Reserves' Claims'
  may_take ask x is leaves =
      subst (λ (a : Ask). MayReserve a s Reserved Reserves Claims Reserved' Reserves' Claims') (sym is) leaves

-- who asks for something else neither puts nor takes a bag
puts_else : (s : Stage) (ask : Ask) → ask_at s ≡ Some ask → ((seal : ℕ) → ask ≢ PutBag seal) → ¬ (is_putting s ≡ true)
puts_else s ask asked other putting = let put = putting_asks s putting in other put.0 (cc (asked, put.1))

takes_else : (s : Stage) (ask : Ask) → ask_at s ≡ Some ask → ((x : ℕ) → ask ≢ TakeBag x) → ¬ (is_taking s ≡ true)
takes_else s ask asked other taking = let take = taking_asks s taking in other take.0 (cc (asked, take.1))

-- by what a participant asks for
pub reserves_by : (ask : Ask) (m n : Machine Deferral)
    (Reserved Reserves Claims Reserved' Reserves' Claims' : ℕ → Type 0) → asks m ≡ Some ask
    → MayReserve ask n.stage Reserved Reserves Claims Reserved' Reserves' Claims'
    → LeavesClaims Reserved (OwnPlaces m.stage Reserves Claims) Reserved' (OwnPlaces n.stage Reserves' Claims')
reserves_by (PutBag seal) m n Reserved Reserves Claims Reserved' Reserves' Claims' asked may place not_own reserved =
    let both = may place (λ own. not_own (inl own)) reserved in (
      both.0,
      λ own. elim own [
        | inl puts ↦ both.1 puts.1
        | inr takes ↦ takes_else m.stage (PutBag seal) asked (λ x e. cc (e)) takes.0
      ],
    )
reserves_by (TakeBag x) m n Reserved Reserves Claims Reserved' Reserves' Claims' asked may place not_own reserved =
    let both = may place (λ own. not_own (inr own)) reserved in (
      both.0,
      λ own. elim own [
        | inl puts ↦ puts_else m.stage (TakeBag x) asked (λ seal e. cc (e)) puts.0
        | inr takes ↦ both.1 takes.1
      ],
    )
reserves_by ask m n Reserved Reserves Claims Reserved' Reserves' Claims' asked may place not_own reserved = (
  may place reserved,
  λ own. elim own [
    | inl puts ↦ puts_else m.stage ask asked (λ seal e. cc (e)) puts.0
    | inr takes ↦ takes_else m.stage ask asked (λ x e. cc (e)) takes.0
  ],
)

-- a step that asks for nothing says nothing of room, and leaves all places claimed as they were
pub no_turn : (w : Word) (progress : Progress) (s : Stage) → ask_at s ≡ None → turn_at w progress s ≡ None
no_turn Unpinned (Driven c) s none = none
no_turn (Pinned e) (Driven c) s none = none
no_turn _ _ s none = refl

-- the end of a call tells nothing new of the room
pub ended_room : (Open : Type 0) (seat was : WorldSeat) (n : Machine Deferral) (room : Bool)
    → seat ≡ was → asks seat.machine ≡ None → TellsRoom Open (turn_of was) n room room
ended_room Open seat was n room is none =
    subst (λ (q : WorldSeat). TellsRoom Open (turn_of q) n room room) is
    (subst (λ (o : Option Ask). TellsRoom Open o n room room)
    (sym (no_turn seat.word seat.progress seat.machine.stage none)) tt)

-- and claims nothing
pub ended_reserves : (seat was : WorldSeat) (s : Stage) (Reserved Reserves Claims : ℕ → Type 0)
    → seat ≡ was → asks seat.machine ≡ None
    → LeavesClaims Reserved (OwnPlaces was.machine.stage Reserves Claims) Reserved (OwnPlaces s Reserves Claims)
ended_reserves seat was s Reserved Reserves Claims is none =
    subst (λ (q : WorldSeat). LeavesClaims Reserved (OwnPlaces q.machine.stage Reserves Claims) Reserved
    (OwnPlaces s Reserves Claims)) is
    (λ place not_own reserved.
    (reserved, λ own. elim own [ inl puts ↦ not_putting puts.0 | inr takes ↦ not_taking takes.0 ]))
  where
    not_putting : ¬ (is_putting seat.machine.stage ≡ true)
    not_putting putting = let put = putting_asks seat.machine.stage putting in cc (none, put.1)

    not_taking : ¬ (is_taking seat.machine.stage ≡ true)
    not_taking taking = let take = taking_asks seat.machine.stage taking in cc (none, take.1)

-- AT A PARTICIPANT'S POSITION

module _ (seats : List WorldSeat) (sizes : Sizes) (p : ℕ) (seat after : WorldSeat) (ask : Ask)
    (there : p < length seats) (is : seat ≡ slice_index_or seats p (free_seat sizes)) where
  abbrev now : WorldSeat
  now = slice_index_or (slice_set seats p after) p (free_seat sizes)

  abbrev was : WorldSeat
  was = slice_index_or seats p (free_seat sizes)

  written : after ≡ now
  written = sym (get_or-set_same seats p after (free_seat sizes) there)

  -- what an ask tells of the room, the step of the participant tells
  pub performed_room : (Open : Type 0) (room room' : Bool)
      → was.word ≢ Free → is_driven was.progress ≡ true → asks was.machine ≡ Some ask
      → TellsRoom Open (Some ask) after.machine room room' → TellsRoom Open (turn_of was) now.machine room room'
  performed_room Open room room' taken driven asked tells =
      subst (λ (o : Option Ask). TellsRoom Open o now.machine room room')
      (sym (turn_driven was.word was.progress was.machine.stage ask taken driven asked))
      (subst (λ (q : WorldSeat). TellsRoom Open (Some ask) q.machine room room') written tells)

  -- and so it is with what the ask leaves claimed
  pub performed_reserves : (Reserved Reserves Claims Reserved' Reserves' Claims' : ℕ → Type 0)
      → asks seat.machine ≡ Some ask
      → MayReserve ask after.machine.stage Reserved Reserves Claims Reserved' Reserves' Claims'
      → LeavesClaims Reserved (OwnPlaces was.machine.stage Reserves Claims) Reserved'
      (OwnPlaces now.machine.stage Reserves' Claims')
  performed_reserves Reserved Reserves Claims Reserved' Reserves' Claims' asked may =
      subst (λ (q : WorldSeat). LeavesClaims Reserved (OwnPlaces q.machine.stage Reserves Claims) Reserved'
      (OwnPlaces now.machine.stage Reserves' Claims')) is
      (subst (λ (q : WorldSeat). LeavesClaims Reserved (OwnPlaces seat.machine.stage Reserves Claims) Reserved'
      (OwnPlaces q.machine.stage Reserves' Claims')) written
      (reserves_by ask seat.machine after.machine Reserved Reserves Claims Reserved' Reserves' Claims' asked may))

-- FROM ONE PARTICIPANT TO ALL

-- under a premise that says more, of a step that loads the epoch
pub tells_under : (A B : Type 0) (o : Option Ask) (n : Machine Deferral) (room room' : Bool)
    → (o ≡ Some LoadEpoch → B → A) → TellsRoom A o n room room' → TellsRoom B o n room room'
tells_under A B (Some LoadEpoch) n room room' more tells = λ b. tells (more refl b)
tells_under A B _ n room room' more tells = tells

not_there : (s : Stage) → is_at_places s ≡ false → (is_putting s ≡ false) × (is_taking s ≡ false)
not_there (Put e) off = absurd (cc (off))
not_there (Take x k) off = absurd (cc (off))
not_there _ off = (refl, refl)

loads_away : (s : Stage) → ask_at s ≡ Some LoadEpoch → is_at_places s ≡ false
loads_away (Put e) asked = absurd (cc (asked))
loads_away (Take x k) asked = absurd (cc (asked))
loads_away _ asked = refl

asks_turn : (w : Word) (progress : Progress) (s : Stage) (ask : Ask)
    → turn_at w progress s ≡ Some ask → ask_at s ≡ Some ask
asks_turn Unpinned (Driven c) s ask turn = turn
asks_turn (Pinned e) (Driven c) s ask turn = turn
asks_turn _ _ s ask turn = absurd (cc (turn))

module _ {P T : Type 0} (Reserves : P → ℕ → Type 0) (Claims : T → ℕ → Type 0) (sizes : Sizes) where
  -- where p loads the epoch, and nobody else is putting or taking a bag, no place without a bag is claimed
  pub free_where : (Reserved : ℕ → Type 0) (s : State) (places : List Bool) (puts : List P) (takes : List T) (p : ℕ)
      → s.sizes ≡ sizes
      → ReservesKnown Reserved Reserves Claims sizes s.seats puts takes → turn_of (seat_of s p) ≡ Some LoadEpoch
      → HasFreePlace p (with_places s places [] [] [])
      → ((place : ℕ) → ¬ (Reserved place)) × (length s.queued < length places)
  free_where Reserved s places puts takes p same known turn free = (
    λ place. known place (nobody_there is_putting Reserves sizes place s.seats puts (λ q. (away q).0))
        (nobody_there is_taking Claims sizes place s.seats takes (λ q. (away q).1)),
    free.fewer,
  )
    where
      off : (q : ℕ) → is_at_places (seat_of s q).machine.stage ≡ false
      off q = elim (same_or_other q p) [
        | inl its ↦ ap (λ (k : ℕ). is_at_places (seat_of s k).machine.stage) its
            ∙ loads_away (seat_of s p).machine.stage
            (asks_turn (seat_of s p).word (seat_of s p).progress (seat_of s p).machine.stage LoadEpoch turn)
        | inr other ↦ free.others q other
      ]

      away : (q : ℕ) → (is_putting (slice_index_or s.seats q (free_seat sizes)).machine.stage ≡ false)
          × (is_taking (slice_index_or s.seats q (free_seat sizes)).machine.stage ≡ false)
      away q = not_there _
          (ap (λ (z : Sizes). is_at_places (slice_index_or s.seats q (free_seat z)).machine.stage) (sym same) ∙ off q)

  -- one participant's step
  pub reserves_known : (Reserved Reserved' : ℕ → Type 0) (old new : List WorldSeat) (puts : List P) (takes : List T)
      (p : ℕ) (was is : P) (from to : T) → p < length puts → p < length takes
      → ((q : ℕ) → q ≢ p → slice_index_or new q (free_seat sizes) ≡ slice_index_or old q (free_seat sizes))
      → LeavesClaims Reserved
      (OwnPlaces (slice_index_or old p (free_seat sizes)).machine.stage (Reserves was) (Claims from)) Reserved'
      (OwnPlaces (slice_index_or new p (free_seat sizes)).machine.stage (Reserves is) (Claims to))
      → ReservesKnown Reserved Reserves Claims sizes old (slice_set puts p was) (slice_set takes p from)
      → ReservesKnown Reserved' Reserves Claims sizes new (slice_set puts p is) (slice_set takes p to)
  reserves_known Reserved Reserved' old new puts takes p was is from to there here others leaves known place
      none_puts none_takes reserved =
      let before = leaves place (λ own. elim own [
        | inl own_put ↦ none_puts p is (get_set_same puts p is there) own_put
        | inr own_take ↦ none_takes p to (get_set_same takes p to here) own_take
      ]) reserved in
      known place (nobody_before is_putting Reserves sizes place old new puts p was is there others
      (λ own. before.1 (inl own)) none_puts)
      (nobody_before is_taking Claims sizes place old new takes p from to here others
      (λ own. before.1 (inr own)) none_takes) before.0

  -- the seat of p is written, which is neither putting nor taking a bag
  pub reserves_quiet : (Reserved : ℕ → Type 0) (old new : List WorldSeat) (puts : List P) (takes : List T) (p : ℕ)
      → is_putting (slice_index_or old p (free_seat sizes)).machine.stage ≡ false
      → is_taking (slice_index_or old p (free_seat sizes)).machine.stage ≡ false
      → ((q : ℕ) → q ≢ p → slice_index_or new q (free_seat sizes) ≡ slice_index_or old q (free_seat sizes))
      → ReservesKnown Reserved Reserves Claims sizes old puts takes
      → ReservesKnown Reserved Reserves Claims sizes new puts takes
  reserves_quiet Reserved old new puts takes p off away others known place none_puts none_takes =
      known place (nobody_quiet is_putting Reserves sizes place old new puts p off others none_puts)
      (nobody_quiet is_taking Claims sizes place old new takes p away others none_takes)

  -- no further place is claimed
  pub reserves_less : (Reserved Reserved' : ℕ → Type 0) (seats : List WorldSeat) (puts : List P) (takes : List T)
      → ((place : ℕ) → Reserved' place → Reserved place)
      → ReservesKnown Reserved Reserves Claims sizes seats puts takes
      → ReservesKnown Reserved' Reserves Claims sizes seats puts takes
  reserves_less Reserved Reserved' seats puts takes less known place none_puts none_takes reserved =
      known place none_puts none_takes (less place reserved)
