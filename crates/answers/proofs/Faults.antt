-- Tests of all faults. They go through the cases that the enum itself has, so that no law lists them: a new fault needs no proof.
--
--     every_fault t   each fault passes the test t
--     each_fault      where each passes, so does any one
--     same f g        f and g are the same case
--     same_fault      then they are equal
-- Assumes nothing.
use mathlib.Core.Path.{◌≡◌, refl, sym, ap, ◌∙◌, subst}
use mathlib.Core.Bool.{Bool, true, false, ◌&&◌}
use mathlib.Core.List.{List, [], ◌∷◌}
use mathlib.Core.Logic.{inl, inr}
use lib.Dec.{T}
use mir.Facts.{and_yes}
use denote.Struct.Field.{Field}
use denote.Enum.Declared.{Choice}
use Rattle.answers.specs.declared.Fault.{Fault}
use Rattle.answers.specs.contracts.Fault.{the_parts as parts, as_values, the_make as make, the_eta as eta}

-- no case holds a value, and each passes the test
abbrev all : (ps : List (List Field)) → (Choice ps → Bool) → Bool
all [] t = true
all ([] ∷ ps) t = t (inl tt) && all ps (λ c. t (inr c))
all ((v ∷ vs) ∷ ps) t = false

all_each : (ps : List (List Field)) (t : Choice ps → Bool) → T (all ps t) → (c : Choice ps) → T (t c)
all_each [] t h c = absurd c
all_each ([] ∷ ps) t h (inl v) = (and_yes (t (inl tt)) (all ps (λ c. t (inr c))) h).0
all_each ([] ∷ ps) t h (inr c) = all_each ps (λ c. t (inr c)) (and_yes (t (inl tt)) (all ps (λ c. t (inr c))) h).1 c
all_each ((v ∷ vs) ∷ ps) t h c = absurd h

unfoldable pub every_fault : (Fault → Bool) → Bool
every_fault t = all parts (λ c. t (make c))

pub each_fault : (t : Fault → Bool) → T (every_fault t) → (f : Fault) → T (t f)
unfolding every_fault
each_fault t h f = subst (λ (g : Fault). T (t g)) (eta f) (all_each parts (λ c. t (make c)) h (as_values f))

abbrev same_case : (ps : List (List Field)) → Choice ps → Choice ps → Bool
same_case [] c d = true
same_case (vs ∷ ps) (inl v) (inl w) = true
same_case (vs ∷ ps) (inl v) (inr d) = false
same_case (vs ∷ ps) (inr c) (inl w) = false
same_case (vs ∷ ps) (inr c) (inr d) = same_case ps c d

same_case_lem : (ps : List (List Field)) → T (all ps (λ c. true)) → (c d : Choice ps) → T (same_case ps c d) → c ≡ d
same_case_lem [] h c d s = absurd c
same_case_lem ([] ∷ ps) h (inl v) (inl w) s = refl
same_case_lem ([] ∷ ps) h (inl v) (inr d) s = absurd s
same_case_lem ([] ∷ ps) h (inr c) (inl w) s = absurd s
same_case_lem ([] ∷ ps) h (inr c) (inr d) s = ap inr (same_case_lem ps h c d s)
same_case_lem ((v ∷ vs) ∷ ps) h c d s = absurd h

unfoldable pub same : Fault → Fault → Bool
same f g = same_case parts (as_values f) (as_values g)

pub same_fault : (f g : Fault) → T (same f g) → f ≡ g
unfolding same
same_fault f g s = sym (eta f) ∙ ap make (same_case_lem parts tt (as_values f) (as_values g) s) ∙ eta g
