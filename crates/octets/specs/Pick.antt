-- The choice by a test, once for the project.
use Rattle.std.specs.Prelude.{Bool, true, false}

abbrev pub pick : {X : Type 0} → Bool → X → X → X
pick true x y = x
pick false x y = y

-- both tests hold
abbrev pub both : Bool → Bool → Bool
both a b = pick a b false
