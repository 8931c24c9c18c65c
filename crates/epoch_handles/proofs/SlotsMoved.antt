-- What a step of a put or of a collection moves: a bag that comes into a hand was at home, and one that leaves it is in
-- a place or is got.
use Rattle.std.proofs.Common.{◌≡◌, ◌≢◌, ◌∙◌, ℕ, ◌+◌, ◌==◌, if◌then◌else◌, Bool, true, false, List, ◌∷◌}
use Rattle.std.proofs.Common.{Option, Some, None, refl, sym, ap, subst, inl, inr, arith}
use Rattle.std.proofs.lemmas.Bool.Decides.{eqb_tells}
use Rattle.std.proofs.lemmas.List.Sums.{sum_by_push, sum_by-cons}
use Rattle.std.specs.Prelude.{sum_by}
use Rattle.epoch_bags.specs.Bags.{Sealed}
use Rattle.epoch_tables.specs.SharedPlaces.{PlaceMe, IsAtHome, after_place_claim, bag_weight}
use Rattle.epoch_tables.specs.SharedSteps.{PutMoves, TakeMoves, Finds, LeavesContent}
use Rattle.epoch_bags.specs.declared.queue.PutStep.{PutStep}
use Rattle.epoch_bags.specs.declared.queue.PutStep.TheVariants.{Again as PutAgain, Full}
use Rattle.epoch_bags.specs.declared.queue.TakeStep.{TakeStep}
use Rattle.epoch_bags.specs.declared.queue.TakeStep.TheVariants.{Again as TakeAgain, Empty as TakeEnds, Got}
use Rattle.epoch_bags.specs.declared.queue.places.PutCursor.{PutCursor}
use Rattle.epoch_bags.specs.declared.queue.places.PutCursor.TheVariants.{Look as PutLook, Claim as PutClaim, Fill}
use Rattle.epoch_bags.specs.declared.queue.places.TakeCursor.{TakeCursor}
use Rattle.epoch_bags.specs.declared.queue.places.TakeCursor.TheVariants.{Look as TakeLook, Claim as TakeClaim, Empty}
use Rattle.epoch_handles.specs.JobsKept.{jobs_weight, slots_weight, leaves_weight, wins_weight}
use Rattle.epoch_handles.proofs.CallsGiven.{no_got_at_look, no_got_at_claim}
use Rattle.epoch_handles.proofs.HeldJobs.{put_weight}

module _ {J : Type 0} (weigh : J → ℕ) where
  -- what stands in hand, in places and in the list of what was won stays the same
  abbrev Quiet : PlaceMe J → PlaceMe J → Type 0
  Quiet v u = (slots_weight weigh u.1 ≡ slots_weight weigh v.1)
      × (leaves_weight weigh u.0 ≡ leaves_weight weigh v.0) × (wins_weight weigh u.0 ≡ wins_weight weigh v.0)

  quiet_same : (v u : PlaceMe J) → u ≡ v → Quiet v u
  quiet_same v u is = (
    ap (λ (z : PlaceMe J). slots_weight weigh z.1) is,
    ap (λ (z : PlaceMe J). leaves_weight weigh z.0) is,
    ap (λ (z : PlaceMe J). wins_weight weigh z.0) is,
  )

  quiet_found : (place word : ℕ) (v u : PlaceMe J) → Finds place v word u → Quiet v u
  quiet_found place word v u is = (
    ap (λ (z : PlaceMe J). slots_weight weigh z.1) is,
    ap (λ (z : PlaceMe J). leaves_weight weigh z.0) is,
    ap (λ (z : PlaceMe J). wins_weight weigh z.0) is,
  )

  -- a claim that is won takes into the hand what it tells of
  won_moved : (place word : ℕ) (home : Option (Sealed J)) (v u : PlaceMe J)
      → u ≡ (after_place_claim v.0 place word home, (place, home) ∷ v.1)
      → (slots_weight weigh u.1 ≡ bag_weight (jobs_weight weigh) home + slots_weight weigh v.1)
      × (leaves_weight weigh u.0 ≡ leaves_weight weigh v.0)
      × (wins_weight weigh u.0 ≡ wins_weight weigh v.0 + bag_weight (jobs_weight weigh) home)
  won_moved place word home v u is = (
    ap (λ (z : PlaceMe J). slots_weight weigh z.1) is
        ∙ sum_by-cons (λ (slot : ℕ × Option (Sealed J)). bag_weight (jobs_weight weigh) slot.1) (place, home) v.1,
    ap (λ (z : PlaceMe J). leaves_weight weigh z.0) is,
    ap (λ (z : PlaceMe J). wins_weight weigh z.0) is ∙ sum_by_push (bag_weight (jobs_weight weigh)) v.0.won home,
  )

  -- a fill or an empty leaves this in its place, and nothing is in hand
  left_moved : (content : Option (Sealed J)) (v u : PlaceMe J) → LeavesContent v content u
      → (slots_weight weigh u.1 ≡ 0)
      × (leaves_weight weigh u.0 ≡ leaves_weight weigh v.0 + bag_weight (jobs_weight weigh) content)
      × (wins_weight weigh u.0 ≡ wins_weight weigh v.0)
  left_moved content v u is = (
    ap (λ (z : PlaceMe J). slots_weight weigh z.1) is,
    ap (λ (z : PlaceMe J). leaves_weight weigh z.0) is
        ∙ sum_by_push (bag_weight (jobs_weight weigh)) v.0.left content,
    ap (λ (z : PlaceMe J). wins_weight weigh z.0) is,
  )

  -- A PUT

  no_put : (b : Bool) (held : List J) → put_weight weigh held (if b then Full else PutAgain) ≡ 0
  no_put true held = refl
  no_put false held = refl

  empty_home : (home : Option (Sealed J)) → IsAtHome 0 home → bag_weight (jobs_weight weigh) home ≡ 0
  empty_home None at = refl
  empty_home (Some bag) at = absurd (omega (arith, at))

  -- With nothing in hand, what is put is left in a place, and nothing is in hand after the step.
  pub put_moved : (places seal : ℕ) (held : List J) (cursor next : PutCursor) (step : PutStep) (v u : PlaceMe J)
      → PutMoves places cursor v (record { seal = seal; jobs = held }) step next u → slots_weight weigh v.1 ≡ 0
      → (slots_weight weigh u.1 ≡ 0)
      × (wins_weight weigh u.0 + leaves_weight weigh v.0 + put_weight weigh held step
      ≡ leaves_weight weigh u.0 + wins_weight weigh v.0)
  put_moved places seal held (PutLook place) next step v u (word, is, free, occupied) none =
      let quiet = quiet_found place word v u is in
      let nothing : put_weight weigh held step ≡ 0 = elim (eqb_tells word 0) [
        | inl zero ↦ ap (λ (z : PutStep). put_weight weigh held z) (free zero.1).0
        | inr differs ↦ ap (λ (z : PutStep). put_weight weigh held z) (occupied differs.1).1
            ∙ no_put (place + 1 == places) held
      ] in
      (quiet.0 ∙ none, omega (arith, quiet.1, quiet.2))
  put_moved places seal held (PutClaim place) next step v u (word, free, occupied) none = elim (eqb_tells word 0) [
    | inl zero ↦ let won = free zero.1 in
        let moved = won_moved place word won.0.0 v u won.0.2 in
        let nothing = empty_home won.0.0 (subst (λ (z : ℕ). IsAtHome z won.0.0) zero.1 won.0.1) in
        let no = ap (λ (z : PutStep). put_weight weigh held z) won.1 in
        (omega (arith, moved.0), omega (arith, moved.1, moved.2))
    | inr differs ↦ let lost = occupied differs.1 in
        let quiet = quiet_found place word v u lost.0 in
        let no = ap (λ (z : PutStep). put_weight weigh held z) lost.1.1 ∙ no_put (place + 1 == places) held in
        (quiet.0 ∙ none, omega (arith, quiet.1, quiet.2))
  ]
  put_moved places seal held (Fill place) next step v u (done, is) none =
      let moved = left_moved (Some record { seal = seal; jobs = held }) v u is in
      let all = ap (λ (z : PutStep). put_weight weigh held z) done in
      (moved.0, omega (arith, moved.1, moved.2))

  -- A COLLECTION

  -- Only between the claim and the empty of a collection may a bag be in hand.
  abbrev pub TakeSlots : TakeCursor → List (ℕ × Option (Sealed J)) → Type 0
  TakeSlots (Empty place) slots = Unit {0}
  TakeSlots cursor slots = slots_weight weigh slots ≡ 0

  pub zero_takes : (cursor : TakeCursor) (slots : List (ℕ × Option (Sealed J)))
      → slots_weight weigh slots ≡ 0 → TakeSlots cursor slots
  zero_takes (TakeLook place) slots zero = zero
  zero_takes (TakeClaim place word) slots zero = zero
  zero_takes (Empty place) slots zero = tt

  -- what a step of a collection gets
  abbrev pub got_weight : List J → TakeStep → ℕ
  got_weight jobs Got = sum_by weigh jobs
  got_weight jobs step = 0

  -- What is got was in hand, and what is in hand after the step was won by it.
  abbrev pub TakeMoved : TakeStep → List J → TakeCursor → PlaceMe J → PlaceMe J → Type 0
  TakeMoved step jobs next v u =
      (slots_weight weigh v.1 + wins_weight weigh u.0 + leaves_weight weigh v.0
      ≡ slots_weight weigh u.1 + leaves_weight weigh u.0 + wins_weight weigh v.0 + got_weight jobs step)
      × (step ≡ TakeAgain → TakeSlots next u.1) × (step ≢ TakeAgain → slots_weight weigh u.1 ≡ 0)

  quiet_take : (step : TakeStep) (jobs : List J) (next : TakeCursor) (v u : PlaceMe J) → Quiet v u
      → slots_weight weigh v.1 ≡ 0 → step ≢ Got → TakeMoved step jobs next v u
  quiet_take Got jobs next v u quiet none other = absurd (other refl)
  quiet_take TakeAgain jobs next v u quiet none other = (
    omega (arith, quiet.0, quiet.1, quiet.2),
    (λ _. zero_takes next u.1 (quiet.0 ∙ none)),
    λ _. quiet.0 ∙ none,
  )
  quiet_take TakeEnds jobs next v u quiet none other = (
    omega (arith, quiet.0, quiet.1, quiet.2),
    (λ _. zero_takes next u.1 (quiet.0 ∙ none)),
    λ _. quiet.0 ∙ none,
  )

  pub take_moved : (places x : ℕ) (cursor next : TakeCursor) (step : TakeStep) (bag : Sealed J) (v u : PlaceMe J)
      → TakeMoves places x cursor v step next u bag → TakeSlots cursor v.1 → TakeMoved step bag.jobs next v u
  take_moved places x (TakeLook place) next step bag v u (past, looks) none =
      let not_got : step ≢ Got = (λ got. no_got_at_look places x place next bag v u
      (subst (λ z. TakeMoves places x (TakeLook place) v z next u bag) got (past, looks))) in
      elim (eqb_tells place places) [
        | inl last ↦ quiet_take step bag.jobs next v u (quiet_same v u (past last.1).1) none not_got
        | inr before ↦ let found = looks before.1 in
            quiet_take step bag.jobs next v u (quiet_found place found.0 v u found.1) none not_got
      ]
  take_moved places x (TakeClaim place claims) next step bag v u (word, won, lost) none =
      elim (eqb_tells word claims) [
        | inl same ↦ let w = won same.1 in
            let moved = won_moved place word w.0.0 v u w.0.2 in
            let no = ap (λ (z : TakeStep). got_weight bag.jobs z) w.1 in (
              omega (arith, moved.0, moved.1, moved.2),
              (λ _. subst (λ z. TakeSlots z u.1) (sym w.2) tt),
              λ other. absurd (other w.1),
            )
        | inr differs ↦ let not_got : step ≢ Got = (λ got. no_got_at_claim places x place claims next bag v u
            (subst (λ z. TakeMoves places x (TakeClaim place claims) v z next u bag) got (word, won, lost))) in
            quiet_take step bag.jobs next v u (quiet_found place word v u (lost differs.1).0) none not_got
      ]
  take_moved places x (Empty place) next step bag v u (got, goes, (is, hand, expired)) any =
      let moved = left_moved None v u is in
      let all = ap (λ (z : TakeStep). got_weight bag.jobs z) got in
      let had = ap (λ (l : List (ℕ × Option (Sealed J))). slots_weight weigh l) hand in (
        omega (arith, moved.0, moved.1, moved.2),
        (λ again. absurd (cc (sym again ∙ got))),
        λ _. moved.0,
      )
