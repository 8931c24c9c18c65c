use Rattle.std.proofs.Common.{ℕ, Option, subst, sym}
use Rattle.epoch_bags.specs.PlaceLists.{taken_places}
use Rattle.epoch_laws.specs.Run.{State}
use Rattle.epoch_world.proofs.PlacesTold.{TellsPlace, words_tell}
use Rattle.epoch_world.proofs.world.places.World+Places+Deferral.place.Goals as goal

-- the word is the store's own, and the world's places are those of its words
pub returns : goal.returns
returns c =
    let told : TellsPlace (taken_places c.self.inside.common.store.words) c.args.place c.word.result =
    subst (λ (found : Option ℕ). TellsPlace (taken_places c.self.inside.common.store.words) c.args.place found)
    (sym c.word.ensures) (words_tell c.self.inside.common.store.words c.args.place) in
    subst (λ (state : State). TellsPlace state.places c.args.place c.word.result) c.self.view_is told
