-- What the replies of a run tell: the lanes, bars, marks and arrows that its picture has to show.
use Rattle.std.specs.Prelude.{ℕ, ◌+◌, max, nat_lt, if◌then◌else◌, Bool, true, false, List, [], ◌∷◌}
use Rattle.epoch_laws.specs.declared.step.Reply.{Reply}
use Rattle.epoch_laws.specs.declared.step.Reply.TheVariants.{Registered, Began, Pinned, Repinned, Deferred, Called}
use Rattle.epoch_laws.specs.declared.step.Reply.TheVariants.{Refused}
use Rattle.epoch_layouts.specs.declared.moment.Moment.{Moment}

abbrev pub is_registration : Reply → Bool
is_registration (Registered position) = true
is_registration _ = false

abbrev pub is_beginning : Reply → Bool
is_beginning Began = true
is_beginning _ = false

-- an epoch was published
abbrev pub is_pin : Reply → Bool
is_pin (Pinned position) = true
is_pin (Repinned position) = true
is_pin _ = false

abbrev pub is_deferral : Reply → Bool
is_deferral (Deferred ticket) = true
is_deferral _ = false

-- a job with a ticket was called
abbrev pub is_call : Reply → Bool
is_call (Called ticket outcome) = true
is_call _ = false

abbrev pub is_refusal : Reply → Bool
is_refusal (Refused fault) = true
is_refusal _ = false

abbrev pub registers : Moment → Bool
registers moment = is_registration moment.reply

abbrev pub begins : Moment → Bool
begins moment = is_beginning moment.reply

abbrev pub pins : Moment → Bool
pins moment = is_pin moment.reply

abbrev pub defers : Moment → Bool
defers moment = is_deferral moment.reply

abbrev pub calls : Moment → Bool
calls moment = is_call moment.reply

abbrev pub refuses : Moment → Bool
refuses moment = is_refusal moment.reply

-- at least so many lanes, and one for this position too; more than 2 ^ 32 - 1 are not counted
abbrev pub lanes_with : ℕ → Reply → ℕ
lanes_with lanes (Registered position) = if nat_lt position 4294967295 then max lanes (position + 1) else 4294967295
lanes_with lanes _ = lanes

-- lanes for all positions up to the greatest one that was taken
abbrev pub lanes_from : ℕ → List Moment → ℕ
lanes_from lanes [] = lanes
lanes_from lanes (moment ∷ moments) = lanes_from (lanes_with lanes moment.reply) moments

abbrev pub lanes_told : List Moment → ℕ
lanes_told moments = lanes_from 0 moments
