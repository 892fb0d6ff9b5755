-- Tests in order. A list of refusals or faults is read from left to right; the result is the first whose test holds.
use Rattle.std.specs.Prelude.{Bool, cond, Option, Some, None, Result, Ok, Err}

-- r if the test holds, else the rest
abbrev pub refuse : {R : Type 0} → Bool → R → Option R → Option R
refuse test r rest = cond test (Some r) rest

-- x, unless there is a fault
abbrev pub unless : {R X : Type 0} → Option R → X → Result X R
unless None x = Ok x
unless (Some r) x = Err r

-- the value with f applied; a fault stays
abbrev pub map_ok : {R X Y : Type 0} → (X → Y) → Result X R → Result Y R
map_ok f (Ok x) = Ok (f x)
map_ok f (Err r) = Err r

-- the value; this fault instead of any fault
abbrev pub or_fault : {E R X : Type 0} → R → Result X E → Result X R
or_fault r (Ok x) = Ok x
or_fault r (Err e) = Err r

-- the value of an `Option`; this fault if it is None
abbrev pub some_or : {R X : Type 0} → R → Option X → Result X R
some_or r (Some x) = Ok x
some_or r None = Err r

-- one reading after another: the first fault, or the result of `next` on the value
abbrev pub and_then : {R X Y : Type 0} → Result X R → (X → Result Y R) → Result Y R
and_then (Ok x) next = next x
and_then (Err r) next = Err r
