-- The refusals by number, as C is told them, and 0 where a call is done. One number can stand for several tests, and says what they have in
-- common: what each call tests, and in which order, its own crate says.
--
--     1   role not 0 or 1                  7    register or Z too large        12   a step of Z that the frame can't carry
--     2   no such symbol rate              8    a lent length not the exact one 13   no such K and M, or more than M^8 sets
--     3   data rate outside its range      9    a byte that is no bit          14   S not below 2^K
--     4   shaping not 0 or 1               10   a ring or label out of range   16   a fixed place of a sequence holds another bit
--     5   mark not stated                  11   rings that are never sent      17   the check of a sequence does not match
--     6   n of 13 or 14 with mark 0                                            18   a field of a sequence out of its range
use Rattle.std.specs.Prelude.{ℕ, Result, Ok, Err}
use Rattle.refusals.specs.declared.Refusal.{Refusal}
use Rattle.refusals.specs.declared.Refusal.TheVariants.{
  UnknownRole,
  UnknownRate,
  DataRateOutOfRange,
  UnknownShaping,
  UnstatedMark,
  DeniedDataRate,
  UnfitState,
  WrongLength,
  NotABit,
  OutOfRange,
  UnsentRings,
  UnsentStep,
  NotPermitted,
  NumberTooLarge,
  WrongPicture,
  WrongCheck,
  FieldOutOfRange,
}

abbrev pub number : Refusal → ℕ
number UnknownRole = 1
number UnknownRate = 2
number DataRateOutOfRange = 3
number UnknownShaping = 4
number UnstatedMark = 5
number DeniedDataRate = 6
number UnfitState = 7
number WrongLength = 8
number NotABit = 9
number OutOfRange = 10
number UnsentRings = 11
number UnsentStep = 12
number NotPermitted = 13
number NumberTooLarge = 14
number WrongPicture = 16
number WrongCheck = 17
number FieldOutOfRange = 18

-- what is told of an outcome
abbrev pub code : {A : Type 0} → Result A Refusal → ℕ
code (Ok value) = 0
code (Err refusal) = number refusal
