use Rattle.std.proofs.Common.{◌≡◌, take}
use Rattle.records.specs.Numerals.{Digits, number}
use Rattle.records.proofs.numeral.numeral.Given as goal

-- the bytes so far are digits, and n is what they say
abbrev pub invariant-loop-d : goal.invariant-loop-d
invariant-loop-d l = Digits (take l.d-index l.digits) × (l.n ≡ number (take l.d-index l.digits))
