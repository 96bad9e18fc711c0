-- What is wanted after marks, and what that says of a list that begins with them.
use Rattle.std.proofs.Common.{◌≡◌, List, [], ◌∷◌, ◌++◌, None, Some, refl, ◌∙◌, ap, subst, append_assoc}
use Rattle.std.specs.Option.{option_and_then}
use Rattle.ps_grammar.specs.Fronts.{IsFront}
use Rattle.ps_grammar.specs.Rules.{step}
use Rattle.ps_grammar.specs.Shape.{Derives, run}
use Rattle.ps_grammar.specs.Shape.Derives.{nothing, by_rule}
use Rattle.ps_grammar.specs.declared.marks.Mark.{Mark}
use Rattle.ps_grammar.specs.declared.symbols.Symbol.{Symbol}
use Rattle.ps_grammar.proofs.Completed.{completed}

-- what follows is read where the marks before it end
pub run_more : (st : List Symbol) (a b : List Mark) → run st (a ++ b) ≡ option_and_then (λ now. run now b) (run st a)
run_more st [] b = refl
run_more [] (m ∷ a) b = refl
run_more (s ∷ st) (m ∷ a) b =
    elim (step s m) as (λ o. option_and_then (λ next. run next (a ++ b)) (option_and_then (λ new. Some (new ++ st)) o) ≡ option_and_then (λ now. run now b) (option_and_then (λ next. run next a) (option_and_then (λ new. Some (new ++ st)) o))) [ None ↦ refl | Some new ↦ run_more (new ++ st) a b ]

-- what is wanted later changes nothing before it
pub run_under : (s below r : List Symbol) (ms : List Mark) → run s ms ≡ Some r → run (s ++ below) ms ≡ Some (r ++ below)
run_under s below r [] e = let same : s ≡ r = cc in ap (λ x. Some (x ++ below)) same
run_under [] below r (m ∷ ms) e = absurd (cc)
run_under (s ∷ st) below r (m ∷ ms) e =
    (elim (step s m) as (λ o. option_and_then (λ next. run next ms) (option_and_then (λ new. Some (new ++ st)) o) ≡ Some r → option_and_then (λ next. run next ms) (option_and_then (λ new. Some (new ++ (st ++ below))) o) ≡ Some (r ++ below)) [ None ↦ λ d. absurd (cc) | Some new ↦ λ d. subst (λ (x : List Symbol). run x ms ≡ Some (r ++ below)) (append_assoc new st below) (run_under (new ++ st) below r ms d) ]) e

-- whatever is wanted can be had
pub finished : (st : List Symbol) → (ms : List Mark) × (run st ms ≡ Some [])
finished [] = ([], refl)
finished (s ∷ st) =
    let rest : (ms : List Mark) × (run st ms ≡ Some []) = finished st in
    let own : (ms : List Mark) × (run (s ∷ []) ms ≡ Some []) = completed s in
    let here : run (s ∷ st) own.0 ≡ Some st = run_under (s ∷ []) st [] own.0 own.1 in
    (own.0 ++ rest.0, run_more (s ∷ st) own.0 rest.0 ∙ ap (λ o. option_and_then (λ now. run now rest.0) o) here ∙ rest.1)

-- a derivation is a run to its end
pub run_of_derived : (st : List Symbol) (ms : List Mark) → Derives st ms → run st ms ≡ Some []
run_of_derived _ _ nothing = refl
run_of_derived _ _ (by_rule s st m ms new fits rest) = rw fits (run_of_derived (new ++ st) ms rest)

-- a run to its end is a derivation
pub derived_of_run : (st : List Symbol) (ms : List Mark) → run st ms ≡ Some [] → Derives st ms
derived_of_run [] [] e = nothing
derived_of_run (s ∷ st) [] e = absurd (cc)
derived_of_run [] (m ∷ ms) e = absurd (cc)
derived_of_run (s ∷ st) (m ∷ ms) e =
    (elim (step s m) as (λ o. step s m ≡ o → option_and_then (λ next. run next ms) (option_and_then (λ new. Some (new ++ st)) o) ≡ Some [] → Derives (s ∷ st) (m ∷ ms)) [ None ↦ λ _ d. absurd (cc) | Some new ↦ λ fits d. by_rule s st m ms new fits (derived_of_run (new ++ st) ms d) ]) refl e

-- marks that fit begin a list of the language
pub front_of_run : (start : List Symbol) (ms : List Mark) (st : List Symbol) → run start ms ≡ Some st → IsFront (Derives start) ms
front_of_run start ms st e =
    let rest : (more : List Mark) × (run st more ≡ Some []) = finished st in
    (rest.0, derived_of_run start (ms ++ rest.0) (run_more start ms rest.0 ∙ ap (λ o. option_and_then (λ now. run now rest.0) o) e ∙ rest.1))

-- marks that begin a list of the language fit
pub run_of_front : (start : List Symbol) (ms : List Mark) → IsFront (Derives start) ms → run start ms ≡ None → ⊥
run_of_front start ms f e =
    let whole : run start (ms ++ f.0) ≡ Some [] = run_of_derived start (ms ++ f.0) f.1 in
    let none : run start (ms ++ f.0) ≡ None = run_more start ms f.0 ∙ ap (λ o. option_and_then (λ now. run now f.0) o) e in
    cc
