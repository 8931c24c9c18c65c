use Rattle.std.proofs.Common.{◌≡◌, ap, length, sym, ◌∙◌, slice_index_or, refl, Some, List, rules}
use Rattle.epoch_machine.specs.declared.machine.Ask.{Ask}
use Rattle.epoch_world.proofs.CollectionSteps.{performed_finds, performed_claims}
use Rattle.epoch_laws.specs.declared.step.Progress.TheVariants.{Driven}
use Rattle.epoch_laws.specs.Calls.{ends_call}
use Rattle.epoch_laws.specs.Run.{Bag, WorldSeat, State, Open, with_places, free_seat, seat_of, is_driven}
use Rattle.epoch_world.specs.Steps.{steps_in_store, InStore}
use Rattle.epoch_world.specs.Worlds.{state_of, with_bags}
use Rattle.epoch_world.proofs.RoomSteps.{ended_room, ended_reserves, performed_room, performed_reserves}
use Rattle.epoch_laws.specs.Heap.{Heap}
use Rattle.epoch_world.proofs.SlotsStay.{access_slots, job_slots}
use Rattle.epoch_world.proofs.Performed.{IsDrivenAt, driven_here, found_there, performed}
use Rattle.epoch_world.proofs.RoomForReadings.{can_read}
use Rattle.epoch_world.proofs.SteppedOnce.{performed_once, ended_once}
use Rattle.epoch_world.proofs.TurnsTaken.{access_less, end_ends, linked_at, performs_less, performs_slots}
use Rattle.epoch_world.proofs.TurnsTaken.{performs_steady, seat_less}
use Rattle.epoch_world.proofs.WorldKept.{ends_where_driven, guards_fit, room_where_driven}
use Rattle.epoch_world.specs.declared.world.common.Common.{Common}
use Rattle.epoch_machine.specs.Machine.{asks}
use Rattle.epoch_world.proofs.world.calls.go_on.Goals as goal

pub end-requires : goal.end-requires
end-requires g c =
    let old : State = state_of c.args.sizes (with_bags g.S.BagStore.queued c.args.common.now) c.args.seats.now.items
    Open in
    let at = found_there c.args.seats.now.items c.args.sizes c.args.index c.index_mut-seat.result.now c.requires.there
    c.index_mut-seat.ensures.value in
    let drive : c.index_mut-seat.result.now.progress ≡ Driven c.in-Driven.call = sym c.progress.ensures
    ∙ c.in-Driven.is in
    record {
      ended = ends_where_driven old c.args.index c.in-Driven.call c.index_mut-seat.result.now c.requires.kept at drive
          (sym c.ask.ensures.value ∙ c.in-None.is);
      fits = guards_fit old c.args.index c.index_mut-seat.result.now c.requires.kept at;
      room = room_where_driven old c.args.index c.in-Driven.call c.index_mut-seat.result.now c.requires.kept at drive;
    }

pub access-requires-clause-room : goal.access-requires-clause-room
access-requires-clause-room g c =
    let old : State = state_of c.args.sizes (with_bags g.S.BagStore.queued c.args.common.now) c.args.seats.now.items
    Open in
    let at = found_there c.args.seats.now.items c.args.sizes c.args.index c.index_mut-seat.result.now c.requires.there
    c.index_mut-seat.ensures.value in
    can_read old c.args.index c.index_mut-seat.result.now c.in-Accesses.access c.in-Accesses.made c.in-Accesses.found
    c.requires.kept c.requires.there at
    (sym c.progress.ensures ∙ c.in-Accesses.is)

-- what the participant's machine asked for was performed
pub returns-in-Some : goal.returns-in-Some
returns-in-Some g c =
    let seat : WorldSeat = c.index_mut-seat.result.now in
    let now : State = state_of c.args.sizes (with_bags g.S.BagStore.queued c.args.common.now) c.args.seats.now.items
    Open in
    let is : seat ≡ seat_of now c.args.index =
    found_there c.args.seats.now.items c.args.sizes c.args.index seat c.requires.there c.index_mut-seat.ensures.value in
    let asked : asks seat.machine ≡ Some c.in-Some.ask = sym c.ask.ensures.value ∙ c.in-Some.is in
    let driven : IsDrivenAt now c.args.index c.in-Some.ask =
    driven_here now c.args.index seat c.in-Driven.call c.in-Some.ask is (search rules)
    (sym c.progress.ensures ∙ c.in-Driven.is) asked (search rules) in
    let slots = length c.args.common.now.heap.cells in
    let bags = g.S.BagStore.capacity c.args.common.now.store in
    let before : InStore =
    steps_in_store g.S.BagStore.puts_left g.S.BagStore.takes_left bags c.args.putting.now c.args.taking.now in
    let after : InStore =
    steps_in_store g.S.BagStore.puts_left g.S.BagStore.takes_left bags c.perform.new.putting c.perform.new.taking in
    let parts : Common (List Bag) = with_bags g.S.BagStore.queued c.args.common.now in
    let left : Common (List Bag) = with_bags g.S.BagStore.queued c.perform.new.common in
    let under_way = ap (λ (q : WorldSeat). is_driven q.progress) is ∙ driven.under_way in
    record {
      step = λ ending places seen ahead room.
          let old : State = with_places (record now { ending = ending }) places seen ahead room in
          performed old old _ c.args.index c.word_asked-word.result seat c.perform.new.self
          c.perform.result c.in-Some.ask left refl
          (linked_at c.args.sizes (with_bags g.S.BagStore.queued c.args.common.now)
          c.args.seats.now.items Open ending places seen ahead room c.requires.kept.linked)
          is
          (record { taken = driven.taken; under_way = driven.under_way; asked = driven.asked; within = driven.within })
          (λ k loads. c.word_asked-word.ensures c.args.sizes k (driven.asked ∙ ap (λ (ask : Ask). Some ask) loads))
          c.perform.ensures.step refl;
      once = performed_once g.S.BagStore.PutMoves g.S.BagStore.TakeMoves c.args.seats.now.items c.args.sizes
          c.args.index
          seat c.perform.new.self c.in-Some.ask c.args.common.now.store c.args.putting.now c.args.taking.now
          c.perform.new.common.store c.perform.new.putting c.perform.new.taking c.requires.there is
          (λ free. driven.taken (ap (λ (q : WorldSeat). q.word) (sym is) ∙ free))
          (ap (λ (q : WorldSeat). is_driven q.progress) is ∙ driven.under_way) asked c.perform.ensures.once;
      looks = search rules;
      finds = performed_finds c.args.seats.now.items c.args.sizes c.args.index seat c.perform.new.self
          c.in-Some.ask c.requires.there is _
          (λ x. g.S.BagStore.ahead x c.args.common.now.store c.args.taking.now) (λ x.
          g.S.BagStore.ahead x c.perform.new.common.store c.perform.new.taking) _ _
          driven.taken driven.under_way driven.asked c.perform.ensures.finds;
      room = performed_room c.args.seats.now.items c.args.sizes c.args.index seat c.perform.new.self
          c.in-Some.ask c.requires.there is _
          (g.S.BagStore.has_room c.args.common.now.store c.args.putting.now)
          (g.S.BagStore.has_room c.perform.new.common.store c.perform.new.putting)
          driven.taken driven.under_way driven.asked c.perform.ensures.room;
      claims = performed_claims c.args.seats.now.items c.args.sizes c.args.index seat c.perform.new.self c.in-Some.ask
          c.requires.there is _ _ _ _
          asked c.perform.ensures.claims;
      reserves = performed_reserves c.args.seats.now.items c.args.sizes c.args.index seat c.perform.new.self
          c.in-Some.ask c.requires.there is _ _ _ _ _ _
          asked c.perform.ensures.reserves;
      others = search rules;
      epoch = c.perform.ensures.within;
      positions = search rules;
      fewer = λ steady goes_on.
          seat_less slots c.args.seats.now.items c.args.index
          (free_seat c.args.sizes) seat c.perform.new.self before after c.requires.there is
          (performs_less slots seat.machine.sizes c.args.index c.word_asked-word.result parts left
          seat c.perform.new.self c.in-Some.ask c.perform.result before after c.perform.ensures.step under_way goes_on
          c.perform.ensures.fewer);
      steady = λ steady goes_on.
          performs_steady seat.machine.sizes c.args.index c.word_asked-word.result parts left
          seat c.perform.new.self c.args.seats.now.items
          (free_seat c.args.sizes) c.in-Some.ask c.perform.result c.perform.new.common.heap c.perform.ensures.step
          under_way goes_on c.requires.there;
      slots = performs_slots seat.machine.sizes c.args.index c.word_asked-word.result parts left
          seat c.perform.new.self seat.machine.stage c.in-Some.ask c.perform.result c.perform.ensures.step;
      capacity = c.perform.ensures.capacity;
    }

-- the end of a call touches no place
pub returns-in-None-clause-once : goal.returns-in-None-clause-once
returns-in-None-clause-once g c =
    ended_once g.S.BagStore.PutMoves g.S.BagStore.TakeMoves c.index_mut-seat.result.now _ _ _ _ _ _
    (found_there c.args.seats.now.items c.args.sizes c.args.index c.index_mut-seat.result.now c.requires.there
    c.index_mut-seat.ensures.value) (sym c.ask.ensures.value ∙ c.in-None.is)

pub returns-in-None-clause-room : goal.returns-in-None-clause-room
returns-in-None-clause-room g c =
    ended_room _ c.index_mut-seat.result.now _ _ _
    (found_there c.args.seats.now.items c.args.sizes c.args.index c.index_mut-seat.result.now c.requires.there
    c.index_mut-seat.ensures.value) (sym c.ask.ensures.value ∙ c.in-None.is)

pub returns-in-None-clause-reserves : goal.returns-in-None-clause-reserves
returns-in-None-clause-reserves g c =
    ended_reserves c.index_mut-seat.result.now _ _ _ _ _
    (found_there c.args.seats.now.items c.args.sizes c.args.index c.index_mut-seat.result.now c.requires.there
    c.index_mut-seat.ensures.value) (sym c.ask.ensures.value ∙ c.in-None.is)

pub returns-in-Accesses-clause-fewer : goal.returns-in-Accesses-clause-fewer
returns-in-Accesses-clause-fewer g c steady goes_on =
    let seat : WorldSeat = c.index_mut-seat.result.now in
    let is : seat ≡ slice_index_or c.args.seats.now.items c.args.index (free_seat c.args.sizes) =
    found_there c.args.seats.now.items c.args.sizes c.args.index seat c.requires.there c.index_mut-seat.ensures.value in
    let bags = g.S.BagStore.capacity c.args.common.now.store in
    let n : InStore = steps_in_store g.S.BagStore.puts_left g.S.BagStore.takes_left bags c.args.putting.now
    c.args.taking.now in
    (access_less c.in-Accesses.access c.in-Accesses.made c.in-Accesses.found c.access.ensures.0.told
    c.args.seats.now.items c.args.index (free_seat c.args.sizes) seat c.access.new.self c.access.result
    c.args.common.now.heap c.access.new.heap n n c.requires.there is (sym c.progress.ensures ∙ c.in-Accesses.is)
    c.access.ensures.0 c.access.ensures.1 c.access.ensures.2 c.access.ensures.3 c.access.ensures.4 steady goes_on).0

pub returns-in-Accesses-clause-steady : goal.returns-in-Accesses-clause-steady
returns-in-Accesses-clause-steady g c steady goes_on =
    let seat : WorldSeat = c.index_mut-seat.result.now in
    let is : seat ≡ slice_index_or c.args.seats.now.items c.args.index (free_seat c.args.sizes) =
    found_there c.args.seats.now.items c.args.sizes c.args.index seat c.requires.there c.index_mut-seat.ensures.value in
    let bags = g.S.BagStore.capacity c.args.common.now.store in
    let n : InStore = steps_in_store g.S.BagStore.puts_left g.S.BagStore.takes_left bags c.args.putting.now
    c.args.taking.now in
    (access_less c.in-Accesses.access c.in-Accesses.made c.in-Accesses.found c.access.ensures.0.told
    c.args.seats.now.items c.args.index (free_seat c.args.sizes) seat c.access.new.self c.access.result
    c.args.common.now.heap c.access.new.heap n n c.requires.there is (sym c.progress.ensures ∙ c.in-Accesses.is)
    c.access.ensures.0 c.access.ensures.1 c.access.ensures.2 c.access.ensures.3 c.access.ensures.4 steady goes_on).1

pub returns-in-Accesses-clause-slots : goal.returns-in-Accesses-clause-slots
returns-in-Accesses-clause-slots g c =
    ap (λ (h : Heap). length h.cells) c.access.ensures.4
    ∙ access_slots c.in-Accesses.access c.in-Accesses.made c.in-Accesses.found c.args.common.now.heap
    c.access.ensures.0 c.access.ensures.1

pub returns-in-CallsNow-clause-slots : goal.returns-in-CallsNow-clause-slots
returns-in-CallsNow-clause-slots g c =
    ap (λ (h : Heap). length h.cells) c.call_now.ensures.heap ∙ job_slots c.args.common.now.heap c.in-CallsNow.removes

-- the end of a call leaves it no step
pub returns-in-None-clause-fewer : goal.returns-in-None-clause-fewer
returns-in-None-clause-fewer g c steady goes_on =
    absurd (cc (end_ends c.in-Driven.call c.index_mut-seat.result.now, ap ends_call c.end.ensures.reply, goes_on))

pub returns-in-None-clause-steady : goal.returns-in-None-clause-steady
returns-in-None-clause-steady g c steady goes_on =
    absurd (cc (end_ends c.in-Driven.call c.index_mut-seat.result.now, ap ends_call c.end.ensures.reply, goes_on))
