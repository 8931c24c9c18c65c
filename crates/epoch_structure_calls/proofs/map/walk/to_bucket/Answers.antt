use Rattle.std.proofs.Common.{◌∙◌, ℕ, refl, sym, ap, subst}
use Rattle.epoch_laws.specs.declared.heap.access.Spot.TheVariants.{Root}
use Rattle.epoch_laws.specs.declared.step.Reply.{Reply}
use Rattle.epoch_structure_laws.specs.Plans.{after_by}
use Rattle.epoch_structure_calls.specs.Paths.{IsTold, reply_given, ReadsOn}
use Rattle.epoch_structure_laws.specs.declared.map.plan.MapPhase.{MapPhase}
use Rattle.epoch_structure_laws.specs.declared.map.plan.MapPhase.TheVariants.{LoadingFirst}
use Rattle.epoch_structure_laws.specs.MapProgram.{map_deed_of, map_load}
use Rattle.epoch_structure_calls.proofs.Strides.{reads_one, reads_so}
use Rattle.epoch_structure_calls.proofs.map.walk.to_bucket.Goals as goal

-- the root was loaded
pub returns : goal.returns
returns g c =
    let phase = LoadingFirst c.in-LoadingFirst.aim c.in-LoadingFirst.moves in
    let told = reply_given c.touch-told.result in
    let does =
    subst (λ (b : ℕ). g.L.Spots.does c.args.spots.now (map_load 0 (Root b)) told c.touch-told.new.self)
    c.bucket_of.ensures
    c.touch-told.ensures.does in
    let is_told = subst (λ (b : ℕ). IsTold (map_load 0 (Root b)) told) c.bucket_of.ensures c.touch-told.ensures.told in
    let reads = reads_one g.L.Spots.does phase c.args.spots.now c.touch-told.new.self told (refl, does, is_told) in
    let heard =
    c.hear.ensures 0
    ∙ ap (λ (r : Reply). after_by phase (map_deed_of 0 phase) r) c.as_reply.ensures in
    subst (λ (f : MapPhase). ReadsOn g.L.Spots.does (map_deed_of 0) f c.args.spots.now c.hear.result
    c.touch-told.new.self)
    (sym c.in-LoadingFirst.is)
    (reads_so g.L.Spots.does phase (after_by phase (map_deed_of 0 phase) told) c.hear.result c.args.spots.now
    c.touch-told.new.self heard reads)
