use Rattle.std.proofs.Common.{inl, inr, subst, refl, arith, ap, sym, ◌∙◌, ◌+◌, ℕ, List, length, drop}
use Rattle.epoch_bags.specs.PlaceLists.{PlaceList, IsReservedAt}
use Rattle.epoch_bags.specs.Places.{put_passed, has_empty, has_room}
use Rattle.epoch_bags.proofs.PlaceSteps.{passed_one, claims_empty, fills_bag}
use Rattle.epoch_bags.proofs.RoomFound.{room_past, room_passed, room_claimed, room_filled, room_taken, puts_on}
use Rattle.epoch_bags.proofs.ClaimedPlaces.{look_reserves, claim_reserves, fill_reserves, reserves_one, reserves_same}
use Rattle.epoch_bags.proofs.ClaimedPlaces.{reserves_less, reserves_not, reserves_past}
use Rattle.epoch_bags.specs.declared.queue.PutStep.TheVariants.{Again, Done, Full}
use Rattle.epoch_bags.specs.declared.queue.places.PutCursor.TheVariants.{Look as PutLook, Claim as PutClaim, Fill}
use Rattle.epoch_bags.specs.CursorSteps.{PutPasses, PutStands, PutsInList}
use Rattle.epoch_bags.proofs.BagLists.{not_some}
use Rattle.epoch_bags.proofs.CursorMoves.{same_places, put_finds, put_passes, put_wins, put_loses}
use Rattle.epoch_bags.proofs.queue.places.PlacesBagStore.put_step.Goals as goal

-- the place was empty, so the claim is of a place without a bag
pub returns-then-claim-clause-claims : goal.returns-then-claim-clause-claims
returns-then-claim-clause-claims g c =
    let won = c.claim.ensures.won c.if-claim.true in
    claims_empty c.args.self.now c.claim.new.places c.in-Claim.place
    (omega arith) c.count-places.ensures.agrees won.0 won.1 c.claim.ensures.bags

pub returns-then-fill-clause-bag : goal.returns-then-fill-clause-bag
returns-then-fill-clause-bag g c = record {
  inserted = fills_bag c.args.self.now c.fill.new.places c.in-Fill.place
      (record { seal = c.args.seal.number; jobs = c.args.held.now.jobs }) (omega arith) c.count-places.ensures.agrees
      (c.fill.ensures.done c.if-fill.true);
  empty = c.fill.ensures.empty c.if-fill.true;
  limit = c.fill.ensures.limit;
}

-- the look found another word than that of an empty place
pub returns-else-look-eq-EMPTY-clause-occupied : goal.returns-else-look-eq-EMPTY-clause-occupied
returns-else-look-eq-EMPTY-clause-occupied g c on place from below =
    passed_one c.args.self.now.words c.in-Look.place place (omega arith)
    (λ zero_word. c.if-look-eq-EMPTY.false (c.look.ensures ∙ zero_word))
    (omega (arith, from, ap put_passed c.in-Look.is)) (omega (arith, below, ap put_passed c.put_further.ensures.cursor))

-- the claim was lost to another word
pub returns-else-claim-clause-occupied : goal.returns-else-claim-clause-occupied
returns-else-claim-clause-occupied g c on place from below =
    passed_one c.args.self.now.words c.in-Claim.place place (omega arith) (c.claim.ensures.lost c.if-claim.false).0
    (omega (arith, from, ap put_passed c.in-Claim.is))
    (omega (arith, below, ap put_passed c.put_further-in-Claim.ensures.cursor))

-- a bag is at home there
pub returns-else-fill-clause-occupied : goal.returns-else-fill-clause-occupied
returns-else-fill-clause-occupied g c on place from below =
    passed_one c.args.self.now.words c.in-Fill.place place (omega arith) (c.fill.ensures.there c.if-fill.false)
    (omega (arith, from, ap put_passed c.in-Fill.is))
    (omega (arith, below, ap put_passed c.put_further-in-Fill.ensures.cursor))

-- WHETHER IT WILL FIND A PLACE

pub returns-then-place-places-clause-room : goal.returns-then-place-places-clause-room
returns-then-place-places-clause-room g c = room_past c.args.self.now c.args.cursor.now
    (omega (arith, ap put_passed c.in-Look.is)) c.count-places.ensures.agrees.beside

pub returns-then-place-places-2-clause-room : goal.returns-then-place-places-2-clause-room
returns-then-place-places-2-clause-room g c = room_past c.args.self.now c.args.cursor.now
    (omega (arith, ap put_passed c.in-Claim.is)) c.count-places.ensures.agrees.beside

pub returns-then-place-places-3-clause-room : goal.returns-then-place-places-3-clause-room
returns-then-place-places-3-clause-room g c = room_past c.args.self.now c.args.cursor.now
    (omega (arith, ap put_passed c.in-Fill.is)) c.count-places.ensures.agrees.beside

pub returns-then-look-eq-EMPTY-clause-room : goal.returns-then-look-eq-EMPTY-clause-room
returns-then-look-eq-EMPTY-clause-room g c = ap (has_room c.args.self.now) (sym c.in-Look.is)

pub returns-else-look-eq-EMPTY-clause-room : goal.returns-else-look-eq-EMPTY-clause-room
returns-else-look-eq-EMPTY-clause-room g c =
    puts_on c.args.self.now c.put_further.new.cursor c.put_further.result c.in-Look.place c.count-places.result _
    c.count-places.ensures.value c.put_further.ensures.cursor c.put_further.ensures.result
    (room_passed c.args.self.now c.in-Look.place (omega arith) (λ zero_word.
    c.if-look-eq-EMPTY.false (c.look.ensures ∙ zero_word)) ∙ ap (has_room c.args.self.now) (sym c.in-Look.is))

pub returns-then-claim-clause-room : goal.returns-then-claim-clause-room
returns-then-claim-clause-room g c =
    let won = c.claim.ensures.won c.if-claim.true in
    room_claimed c.args.self.now c.claim.new.places c.in-Claim.place (omega arith) c.count-places.ensures.agrees won.0
    c.claim.ensures.bags ∙ ap (has_room c.args.self.now) (sym c.in-Claim.is)

pub returns-else-claim-clause-room : goal.returns-else-claim-clause-room
returns-else-claim-clause-room g c =
    let lost = c.claim.ensures.lost c.if-claim.false in
    puts_on c.claim.new.places c.put_further-in-Claim.new.cursor c.put_further-in-Claim.result
    c.in-Claim.place c.count-places.result _ (c.count-places.ensures.value
    ∙ ap length (sym lost.1)) c.put_further-in-Claim.ensures.cursor c.put_further-in-Claim.ensures.result
    (ap (λ (l : List ℕ). has_empty (drop (c.in-Claim.place + 1) l)) lost.1
    ∙ room_passed c.args.self.now c.in-Claim.place (omega arith) lost.0
    ∙ ap (has_room c.args.self.now) (sym c.in-Claim.is))

pub returns-then-fill-clause-room : goal.returns-then-fill-clause-room
returns-then-fill-clause-room g c =
    ap (has_room c.args.self.now) c.in-Fill.is ∙ room_filled c.args.self.now c.in-Fill.place
    (omega (arith, c.count-places.ensures.agrees.beside)) (c.fill.ensures.done c.if-fill.true).was_empty

pub returns-else-fill-clause-room : goal.returns-else-fill-clause-room
returns-else-fill-clause-room g c =
    let same = (c.fill.ensures.not c.if-fill.false).0 in
    puts_on c.fill.new.places c.put_further-in-Fill.new.cursor c.put_further-in-Fill.result c.in-Fill.place
    c.count-places.result _ (c.count-places.ensures.value ∙ ap (λ (s : PlaceList g.row.J.Denot). length s.words)
    (sym same)) c.put_further-in-Fill.ensures.cursor c.put_further-in-Fill.ensures.result
    (ap (λ (s : PlaceList g.row.J.Denot). has_empty (drop (c.in-Fill.place + 1) s.words)) same
    ∙ room_taken c.args.self.now c.in-Fill.place (omega (arith, c.count-places.ensures.agrees.beside))
    (c.fill.ensures.home c.if-fill.false) ∙ ap (has_room c.args.self.now) (sym c.in-Fill.is))

-- WHAT IT CLAIMS

pub returns-then-look-eq-EMPTY-clause-reserves : goal.returns-then-look-eq-EMPTY-clause-reserves
returns-then-look-eq-EMPTY-clause-reserves g c place reserved =
    inr (reserved, look_reserves c.args.cursor.now c.in-Look.place place c.in-Look.is)

pub returns-else-look-eq-EMPTY-clause-reserves : goal.returns-else-look-eq-EMPTY-clause-reserves
returns-else-look-eq-EMPTY-clause-reserves g c place reserved =
    inr (reserved, look_reserves c.args.cursor.now c.in-Look.place place c.in-Look.is)

pub returns-then-place-places-clause-reserves : goal.returns-then-place-places-clause-reserves
returns-then-place-places-clause-reserves g c place reserved =
    inr (reserved, look_reserves c.args.cursor.now c.in-Look.place place c.in-Look.is)

pub returns-then-place-places-2-clause-reserves : goal.returns-then-place-places-2-clause-reserves
returns-then-place-places-2-clause-reserves g c place reserved =
    inr (reserved, claim_reserves c.args.cursor.now c.in-Claim.place place c.in-Claim.is)

pub returns-then-claim-clause-reserves : goal.returns-then-claim-clause-reserves
returns-then-claim-clause-reserves g c place reserved = elim (reserves_one c.args.self.now c.claim.new.places
    c.in-Claim.place place (c.claim.ensures.won c.if-claim.true).1 c.claim.ensures.bags reserved) [
      | inl here ↦ inl here
      | inr before ↦ inr (before, claim_reserves c.args.cursor.now c.in-Claim.place place c.in-Claim.is)
    ]

pub returns-else-claim-clause-reserves : goal.returns-else-claim-clause-reserves
returns-else-claim-clause-reserves g c place reserved = inr (
  reserves_same c.args.self.now c.claim.new.places place
      (c.claim.ensures.lost c.if-claim.false).1 c.claim.ensures.bags reserved,
  claim_reserves c.args.cursor.now c.in-Claim.place place c.in-Claim.is,
)

pub returns-then-place-places-3-clause-reserves : goal.returns-then-place-places-3-clause-reserves
returns-then-place-places-3-clause-reserves g c place reserved =
    inr (
      reserved,
      fill_reserves c.args.cursor.now c.in-Fill.place place c.in-Fill.is
          (reserves_past c.args.self.now c.in-Fill.place place (omega arith) reserved),
    )

pub returns-then-fill-clause-reserves : goal.returns-then-fill-clause-reserves
returns-then-fill-clause-reserves g c place reserved =
    let filled = c.fill.ensures.done c.if-fill.true in
    let less = reserves_less c.args.self.now c.fill.new.places c.in-Fill.place _ place _ (omega arith)
    (λ even. absurd (omega arith)) filled.words filled.bags reserved in
    inr (less.0, fill_reserves c.args.cursor.now c.in-Fill.place place c.in-Fill.is less.1)

pub returns-else-fill-clause-reserves : goal.returns-else-fill-clause-reserves
returns-else-fill-clause-reserves g c place reserved =
    let same = (c.fill.ensures.not c.if-fill.false).0 in
    let before : IsReservedAt c.args.self.now place = subst (λ (s : PlaceList _). IsReservedAt s place) same reserved in
    inr (
      before,
      fill_reserves c.args.cursor.now c.in-Fill.place place c.in-Fill.is
          (reserves_not c.args.self.now c.in-Fill.place place (c.fill.ensures.home c.if-fill.false) before),
    )

-- WHAT IT DOES

pub returns-then-place-places-clause-moves : goal.returns-then-place-places-clause-moves
returns-then-place-places-clause-moves g c =
    subst (λ u. PutStands c.args.self.now u → PutsInList c.args.self.now c.args.self.now
    (record { seal = c.args.seal.number; jobs = c.args.held.now.jobs }) u Full c.args.cursor.now) (sym c.in-Look.is)
    (λ stands. absurd (omega (arith, stands, c.count-places.ensures.value)))

pub returns-then-look-eq-EMPTY-clause-moves : goal.returns-then-look-eq-EMPTY-clause-moves
returns-then-look-eq-EMPTY-clause-moves g c =
    subst (λ u. PutStands c.args.self.now u → PutsInList c.args.self.now c.args.self.now
    (record { seal = c.args.seal.number; jobs = c.args.held.now.jobs }) u Again (PutClaim c.in-Look.place))
    (sym c.in-Look.is)
    (λ stands. put_finds c.args.self.now c.args.self.now
    (record { seal = c.args.seal.number; jobs = c.args.held.now.jobs }) c.in-Look.place
    (sym c.look.ensures ∙ c.if-look-eq-EMPTY.true) refl)

pub returns-else-look-eq-EMPTY-clause-moves : goal.returns-else-look-eq-EMPTY-clause-moves
returns-else-look-eq-EMPTY-clause-moves g c =
    subst (λ u. PutStands c.args.self.now u → PutsInList c.args.self.now c.args.self.now
    (record { seal = c.args.seal.number; jobs = c.args.held.now.jobs }) u c.put_further.result c.put_further.new.cursor)
    (sym c.in-Look.is)
    (λ stands. put_passes c.args.self.now c.args.self.now
    (record { seal = c.args.seal.number; jobs = c.args.held.now.jobs }) c.in-Look.place _ _
    (λ zero_word. c.if-look-eq-EMPTY.false (c.look.ensures ∙ zero_word)) refl
    (subst (λ n. PutPasses n c.in-Look.place c.put_further.result c.put_further.new.cursor) c.count-places.ensures.value
    (c.put_further.ensures.cursor, c.put_further.ensures.result)))

pub returns-then-place-places-2-clause-moves : goal.returns-then-place-places-2-clause-moves
returns-then-place-places-2-clause-moves g c =
    subst (λ u. PutStands c.args.self.now u → PutsInList c.args.self.now c.args.self.now
    (record { seal = c.args.seal.number; jobs = c.args.held.now.jobs }) u Full c.args.cursor.now) (sym c.in-Claim.is)
    (λ stands. absurd (omega (arith, stands, c.count-places.ensures.value)))

pub returns-then-claim-clause-moves : goal.returns-then-claim-clause-moves
returns-then-claim-clause-moves g c =
    subst (λ u. PutStands c.args.self.now u → PutsInList c.args.self.now c.claim.new.places
    (record { seal = c.args.seal.number; jobs = c.args.held.now.jobs }) u Again (Fill c.in-Claim.place))
    (sym c.in-Claim.is)
    (λ stands.
    let won = c.claim.ensures.won c.if-claim.true in
    put_wins c.args.self.now c.claim.new.places (record { seal = c.args.seal.number; jobs = c.args.held.now.jobs })
    c.in-Claim.place won.0 won.1 c.claim.ensures.bags)

pub returns-else-claim-clause-moves : goal.returns-else-claim-clause-moves
returns-else-claim-clause-moves g c =
    subst (λ u. PutStands c.args.self.now u → PutsInList c.args.self.now c.claim.new.places (record {
      seal = c.args.seal.number;
      jobs = c.args.held.now.jobs;
    }) u c.put_further-in-Claim.result c.put_further-in-Claim.new.cursor) (sym c.in-Claim.is)
    (λ stands.
    let lost = c.claim.ensures.lost c.if-claim.false in
    put_loses c.args.self.now c.claim.new.places (record { seal = c.args.seal.number; jobs = c.args.held.now.jobs })
    c.in-Claim.place _ _ lost.0 (same_places c.args.self.now c.claim.new.places lost.1 c.claim.ensures.bags)
    (subst (λ n. PutPasses n c.in-Claim.place c.put_further-in-Claim.result c.put_further-in-Claim.new.cursor)
    c.count-places.ensures.value (c.put_further-in-Claim.ensures.cursor, c.put_further-in-Claim.ensures.result)))

pub returns-then-place-places-3-clause-moves : goal.returns-then-place-places-3-clause-moves
returns-then-place-places-3-clause-moves g c =
    subst (λ u. PutStands c.args.self.now u → PutsInList c.args.self.now c.args.self.now
    (record { seal = c.args.seal.number; jobs = c.args.held.now.jobs }) u Full (PutLook c.in-Fill.place))
    (sym c.in-Fill.is)
    (λ stands. absurd (omega (arith, stands.0, c.count-places.ensures.value)))

pub returns-then-fill-clause-moves : goal.returns-then-fill-clause-moves
returns-then-fill-clause-moves g c =
    subst (λ u. PutStands c.args.self.now u → PutsInList c.args.self.now c.fill.new.places
    (record { seal = c.args.seal.number; jobs = c.args.held.now.jobs }) u Done (PutLook (c.in-Fill.place + 1)))
    (sym c.in-Fill.is)
    (λ stands. (refl, c.fill.ensures.done c.if-fill.true))

pub returns-else-fill-clause-moves : goal.returns-else-fill-clause-moves
returns-else-fill-clause-moves g c =
    subst (λ u. PutStands c.args.self.now u → PutsInList c.args.self.now c.fill.new.places (record {
      seal = c.args.seal.number;
      jobs = c.args.held.now.jobs;
    }) u c.put_further-in-Fill.result c.put_further-in-Fill.new.cursor) (sym c.in-Fill.is)
    (λ stands. absurd (not_some _ stands.1 (c.fill.ensures.home c.if-fill.false)))
