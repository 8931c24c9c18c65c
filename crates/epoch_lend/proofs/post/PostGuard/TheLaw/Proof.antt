-- A `&` to a guard shows that the guard's lifetime lasts. Assumes `Logic`.
use mathlib.Core.List.{[], ◌∷◌}
use denote.Builtin.{unit}
use denote.Param.Shared.{copy_shared}
use base.Logic.{snd∗}
use base.Before.{before}
use types.Logic.{sem}
use denote.Sharing.{ends, said}
use denote.SharingLaws.{beside_shr_laws, ends_shr_laws}
use Rattle.epoch_lend.specs.Posts.{entered}
use Rattle.epoch_lend.proofs.Loans.{entered_dup}
use denote.Struct.Laws.{field_copy}
use denote.Struct.Lending.{of_Lends}
use Rattle.core.specs.contracts.marker.PhantomData as marker
use Rattle.epoch_lend.specs.contracts.post.PostGuard as C
use Rattle.epoch_lend.proofs.Reading.{guard_lends}
use Rattle.epoch_lend.proofs.post.PostGuard.TheLaw.Statement.{statement}

pub shares : statement
shares = of_Lends C.struct (C.the_codes (marker.the_row unit).coded) C.the_heap C.the_lent (λ d p. beside_shr_laws
    (ends (d.atom ∷ [])) (said (entered (d.atom, d.epoch) d.log)) (ends_shr_laws (d.atom ∷ []))
    (record {
      contraction = λ M 𝓤 𝓛 κ. entered_dup 𝓛 0 (
        d.atom,
        d.epoch,
      ) d.log;
      mono = λ M 𝓤 𝓛 κ' κ. snd∗ 𝓤 (sem 𝓛 (before κ' κ)) (sem 𝓛 (entered (
        d.atom,
        d.epoch,
      ) d.log));
    })) (
      copy_shared (marker.the_field unit) (field_copy (marker.the_type unit) tt),
      tt,
    ) (λ M 𝓤 𝓛 d p. guard_lends 𝓛 d.atom d.epoch d.log d.count C.the_row.lives)
