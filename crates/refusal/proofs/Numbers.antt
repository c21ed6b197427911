-- A refusal's number is never 0, which stands for acceptance. Assumes nothing.
use mathlib.Core.Bool.{false}
use mathlib.Core.Path.{◌≡◌, refl}
use lib.Dec.{eqb}
use Rattle.refusal.specs.Code.{refusal_code}
use Rattle.refusal.specs.declared.Refusal.{Refusal}
use Rattle.refusal.specs.declared.Refusal.TheVariants.{TextTooLong, BrokenShape, NumberOutOfLimits, WrongDomain, RepeatedOrMissing}
use Rattle.refusal.specs.declared.Refusal.TheVariants.{NoColour, SharesOverThousand, BadRecipient, RunTooLong, TooMany}
use Rattle.refusal.specs.declared.Refusal.TheVariants.{WrongLength, ImpossiblePlan, DamagedTable, ImpossibleState}
use Rattle.refusal.specs.declared.Refusal.TheVariants.{FrameOutOfLimits, ColoursOverFifteen, BufferTooShort}
use Rattle.refusal.specs.declared.Refusal.TheVariants.{LatestOutOfLimits}

pub number_not_zero : (refusal : Refusal) → eqb (refusal_code refusal).number 0 ≡ false
number_not_zero TextTooLong = refl
number_not_zero (BrokenShape offset) = refl
number_not_zero (NumberOutOfLimits offset) = refl
number_not_zero (WrongDomain offset) = refl
number_not_zero (RepeatedOrMissing offset) = refl
number_not_zero (NoColour domain) = refl
number_not_zero (SharesOverThousand sum) = refl
number_not_zero (BadRecipient offset) = refl
number_not_zero RunTooLong = refl
number_not_zero (TooMany offset) = refl
number_not_zero WrongLength = refl
number_not_zero ImpossiblePlan = refl
number_not_zero DamagedTable = refl
number_not_zero ImpossibleState = refl
number_not_zero FrameOutOfLimits = refl
number_not_zero (ColoursOverFifteen total) = refl
number_not_zero (BufferTooShort needed) = refl
number_not_zero (LatestOutOfLimits domain) = refl
