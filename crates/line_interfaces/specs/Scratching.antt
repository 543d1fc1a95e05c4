-- Which runners do not start. Assumes nothing.
use Rattle.std.specs.Prelude.{◌≡◌, ◌-◌, Bool, true, false, ◌&&◌, replicate, Ok, Err, Result, ◌≢◌, nat_le, slice_index_or, slice_set}
use Rattle.base.specs.declared.refusal.Refusal.{Refusal}
use Rattle.base.specs.declared.refusal.Refusal.TheVariants.{Field}
use Rattle.lines.specs.declared.line.Runner.{Runner}
use Rattle.line_interfaces.specs.declared.scratched.Scratched.{Scratched}

-- whether a runner's number is 1 to 24
abbrev pub in_range : Runner → Bool
in_range r = nat_le 1 r.0 && nat_le r.0 24

-- whether a runner is in the set: whether its flag is set, which stands at the place one below its number
abbrev pub has : Scratched → Runner → Bool
has s r = in_range r && slice_index_or s.flags (r.0 - 1) false

-- the set of no runner
abbrev pub empty : Scratched
empty = record { flags = replicate 24 false }

-- the set with a runner's flag put to `b`, and every other flag as it was
abbrev pub marked : Scratched → Runner → Bool → Scratched
marked s r b = record { flags = slice_set s.flags (r.0 - 1) b }

-- a runner in range is put in or taken out, as `b` says, and every other runner stays as it was
pub record Changed (before : Scratched) (r : Runner) (b : Bool) (after : Scratched) : Type 0 where
  pub range : in_range r ≡ true
  pub whole : after ≡ marked before r b
  pub itself : has after r ≡ b
  pub others : (q : Runner) → (q ≢ r) → has after q ≡ has before q

-- a runner out of range is refused, and the set left as it was
pub record Kept (before : Scratched) (r : Runner) (e : Refusal) (after : Scratched) : Type 0 where
  pub range : in_range r ≡ false
  pub refusal : e ≡ Field
  pub whole : after ≡ before

-- what comes of putting a runner in or taking it out
abbrev pub Marks : Scratched → Runner → Bool → Result (Unit {0}) Refusal → Scratched → Type 0
Marks before r b (Ok x) after = Changed before r b after
Marks before r b (Err e) after = Kept before r e after
