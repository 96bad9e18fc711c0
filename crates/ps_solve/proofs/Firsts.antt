-- The first nodes of new states: what they are, and that the other nodes lead nowhere new.
use Rattle.std.proofs.Common.{◌≡◌, ◌+◌, Bool, true, false, cond, ◌||◌, List, [], ◌∷◌, ◌++◌, Option, Some, None, map, find, flat_map, length, refl, ap, sym, ◌∙◌, subst, inl, inr, arith}
use Rattle.std.specs.List.{list_any}
use Rattle.std.proofs.lemmas.List.{length-append}
use Rattle.std.proofs.lemmas.Bool.{or_right, or_left}
use Rattle.ps_world.proofs.Truths.{or_false}
use Rattle.ps_action.proofs.Contained.{or_cases}
use Rattle.ps_problem.proofs.PutFacts.{or_swap}
use Rattle.ps_ground.specs.Moves.{Node}
use Rattle.ps_solve.specs.Nodes.{firsts, is_met, met, same_state, with_state}
use Rattle.ps_solve.proofs.SameStates.{met_more, state_itself, state_same}
use Rattle.ps_ground.specs.States.{State}

-- the states of nodes
abbrev pub states : List Node → List State
states ns = map (λ n. n.state) ns

-- all of these states were met
abbrev pub AllMet : List State → List State → Type 0
AllMet seen [] = Unit {0}
AllMet seen (s ∷ ss) = (is_met seen s ≡ true) × AllMet seen ss

-- ---- one list after another

pub met-append : (seen : List State) (xs ys : List Node) → met seen (xs ++ ys) ≡ met (met seen xs) ys
met-append seen [] ys = refl
met-append seen (x ∷ xs) ys =
    let more = with_state seen x.state in
    elim (is_met seen x.state) as (λ b. cond b (met seen (xs ++ ys)) (met more (xs ++ ys)) ≡ met (cond b (met seen xs) (met more xs)) ys) [
      | true ↦ met-append seen xs ys
      | false ↦ met-append more xs ys
    ]

pub firsts-append : (seen : List State) (xs ys : List Node) → firsts seen (xs ++ ys) ≡ firsts seen xs ++ firsts (met seen xs) ys
firsts-append seen [] ys = refl
firsts-append seen (x ∷ xs) ys =
    let more = with_state seen x.state in
    elim (is_met seen x.state) as (λ b. cond b (firsts seen (xs ++ ys)) (x ∷ firsts more (xs ++ ys)) ≡ cond b (firsts seen xs) (x ∷ firsts more xs) ++ firsts (cond b (met seen xs) (met more xs)) ys) [
      | true ↦ firsts-append seen xs ys
      | false ↦ ap (λ l. x ∷ l) (firsts-append more xs ys)
    ]

-- ---- what is met

pub met_stays : (s t : State) (seen : List State) → is_met seen s ≡ true → is_met (with_state seen t) s ≡ true
met_stays s t seen e = met_more s t seen ∙ or_right (same_state s t) (is_met seen s) e

pub met_now : (t : State) (seen : List State) → is_met (with_state seen t) t ≡ true
met_now t seen = met_more t t seen ∙ or_left (same_state t t) (is_met seen t) (state_itself t)

-- what was met is met afterwards
pub still_met : (s : State) (seen : List State) (xs : List Node) → is_met seen s ≡ true → is_met (met seen xs) s ≡ true
still_met s seen [] e = e
still_met s seen (x ∷ xs) e =
    let more = with_state seen x.state in
    elim (is_met seen x.state) as (λ b. is_met (cond b (met seen xs) (met more xs)) s ≡ true) [
      | true ↦ still_met s seen xs e
      | false ↦ still_met s more xs (met_stays s x.state seen e)
    ]

pub all_still_met : (ss seen : List State) (xs : List Node) → AllMet seen ss → AllMet (met seen xs) ss
all_still_met [] seen xs a = tt
all_still_met (s ∷ ss) seen xs a = (still_met s seen xs a.0, all_still_met ss seen xs a.1)

first_met_at : (x : Node) (xs : List Node) (seen : List State) (b : Bool) → is_met seen x.state ≡ b → is_met (cond b (met seen xs) (met (with_state seen x.state) xs)) x.state ≡ true
first_met_at x xs seen true e = still_met x.state seen xs e
first_met_at x xs seen false e = still_met x.state (with_state seen x.state) xs (met_now x.state seen)

-- the nodes that are looked at are met afterwards
pub all_met : (seen : List State) (xs : List Node) → AllMet (met seen xs) (states xs)
all_met seen [] = tt
all_met seen (x ∷ xs) = (
  first_met_at x xs seen (is_met seen x.state) refl,
  elim (is_met seen x.state) as (λ b. AllMet (cond b (met seen xs) (met (with_state seen x.state) xs)) (states xs)) [
    | true ↦ all_met seen xs
    | false ↦ all_met (with_state seen x.state) xs
  ],
)

-- what is met afterwards was met before, or is the state of a first node
pub is_met-met : (s : State) (seen : List State) (xs : List Node) → is_met (met seen xs) s ≡ (is_met seen s || list_any (same_state s) (states (firsts seen xs)))
is_met-met s seen [] = sym (or_false (is_met seen s))
is_met-met s seen (x ∷ xs) =
    let more = with_state seen x.state in
    elim (is_met seen x.state) as (λ b. is_met (cond b (met seen xs) (met more xs)) s ≡ (is_met seen s || list_any (same_state s) (states (cond b (firsts seen xs) (x ∷ firsts more xs))))) [
      | true ↦ is_met-met s seen xs
      | false ↦
          is_met-met s more xs ∙ ap (λ v. v || list_any (same_state s) (states (firsts more xs))) (met_more s x.state seen)
          ∙ or_swap (same_state s x.state) (is_met seen s) (list_any (same_state s) (states (firsts more xs)))
    ]

-- nodes of states that were met are nothing new
none_first : (seen : List State) (xs : List Node) → AllMet seen (states xs) → firsts seen xs ≡ []
none_first seen [] a = refl
none_first seen (x ∷ xs) a = rw a.0 (none_first seen xs a.1)

none_met : (seen : List State) (xs : List Node) → AllMet seen (states xs) → met seen xs ≡ seen
none_met seen [] a = refl
none_met seen (x ∷ xs) a = rw a.0 (none_met seen xs a.1)

-- ---- where the states of the next nodes depend on the state of a node alone

-- all that these states lead to was met
abbrev pub LeadInto : (State → List State) → List State → List State → Type 0
LeadInto succs old new = (s : State) → is_met old s ≡ true → AllMet new (succs s)

module _ (f : Node → List Node) (succs : State → List State) (next_states : (n : Node) → states (f n) ≡ succs n.state) where
  all_next_met : (n : Node) (seen : List State) → AllMet (met seen (f n)) (succs n.state)
  all_next_met n seen = let P : List State → Type 0 = AllMet (met seen (f n)) in subst P (next_states n) (all_met seen (f n))

  pub lead_more : (c : Node) (old new : List State) → LeadInto succs old new → LeadInto succs (with_state old c.state) (met new (f c))
  lead_more c old new h s e =
      elim (or_cases (same_state s c.state) (is_met old s) (sym (met_more s c.state old) ∙ e)) [
        | inl here ↦ let P : State → Type 0 = λ t. AllMet (met new (f c)) (succs t) in subst P (sym (state_same s c.state here)) (all_next_met c new)
        | inr there ↦ all_still_met (succs s) new (f c) (h s there)
      ]

  expands_at : (c : Node) (rest : List Node) (firsts_of : List Node) (old new : List State) (b : Bool) → is_met old c.state ≡ b → LeadInto succs old new → (b ≡ true → firsts new (flat_map f rest) ≡ firsts new (flat_map f firsts_of)) → (others : List Node) → (b ≡ false → firsts (met new (f c)) (flat_map f rest) ≡ firsts (met new (f c)) (flat_map f others)) → firsts new (f c ++ flat_map f rest) ≡ firsts new (flat_map f (cond b firsts_of (c ∷ others)))
  expands_at c rest firsts_of old new true e h same others more =
      let met_all : AllMet new (states (f c)) = let P : List State → Type 0 = AllMet new in subst P (sym (next_states c)) (h c.state e) in
      firsts-append new (f c) (flat_map f rest)
      ∙ ap (λ l. l ++ firsts (met new (f c)) (flat_map f rest)) (none_first new (f c) met_all)
      ∙ ap (λ s. firsts s (flat_map f rest)) (none_met new (f c) met_all) ∙ same refl
  expands_at c rest firsts_of old new false e h same others more =
      firsts-append new (f c) (flat_map f rest) ∙ ap (λ l. firsts new (f c) ++ l) (more refl)
      ∙ sym (firsts-append new (f c) (flat_map f others))

  -- only the first node of each state leads to new ones
  pub expands : (cs : List Node) (old new : List State) → LeadInto succs old new → firsts new (flat_map f cs) ≡ firsts new (flat_map f (firsts old cs))
  expands [] old new h = refl
  expands (c ∷ cs) old new h =
      let more = with_state old c.state in
      expands_at c cs (firsts old cs) old new (is_met old c.state) refl h (λ e. expands cs old new h)
      (firsts more cs) (λ e. expands cs more (met new (f c)) (lead_more c old new h))

  -- all that these nodes lead to is met afterwards
  pub all_lead : (s : State) (ns : List Node) (seen : List State) → list_any (same_state s) (states ns) ≡ true → AllMet (met seen (flat_map f ns)) (succs s)
  all_lead s [] seen e = absurd (cc)
  all_lead s (n ∷ ns) seen e =
      let P : List State → Type 0 = λ l. AllMet l (succs s) in
      subst P (sym (met-append seen (f n) (flat_map f ns))) (elim (or_cases (same_state s n.state) (list_any (same_state s) (states ns)) e) [
        | inl here ↦
            let Q : State → Type 0 = λ t. AllMet (met seen (f n)) (succs t) in
            all_still_met (succs s) (met seen (f n)) (flat_map f ns) (subst Q (sym (state_same s n.state here)) (all_next_met n seen))
        | inr there ↦ all_lead s ns (met seen (f n)) there
      ])

-- ---- the first node that meets a goal

-- none of these states meets it
abbrev pub NoneGood : (State → Bool) → List State → Type 0
NoneGood good seen = (s : State) → is_met seen s ≡ true → good s ≡ false

module _ (good : State → Bool) where
  none_more : (t : State) (seen : List State) → NoneGood good seen → good t ≡ false → NoneGood good (with_state seen t)
  none_more t seen h g s e =
      elim (or_cases (same_state s t) (is_met seen s) (sym (met_more s t seen) ∙ e)) [
        | inl here ↦ ap good (state_same s t here) ∙ g
        | inr there ↦ h s there
      ]

  found_at : (c : Node) (cs : List Node) (seen : List State) (b g : Bool) → is_met seen c.state ≡ b → good c.state ≡ g → NoneGood good seen → ((s : List State) → NoneGood good s → find (λ n. good n.state) (firsts s cs) ≡ find (λ n. good n.state) cs) → find (λ n. good n.state) (cond b (firsts seen cs) (c ∷ firsts (with_state seen c.state) cs)) ≡ cond g (Some c) (find (λ n. good n.state) cs)
  found_at c cs seen true true e p h same = let no = h c.state e in absurd (cc)
  found_at c cs seen true false e p h same = same seen h
  found_at c cs seen false true e p h same = rw p refl
  found_at c cs seen false false e p h same = rw p (same (with_state seen c.state) (none_more c.state seen h p))

  -- where none that was met meets the goal, the first of all nodes that does is the first of its state
  pub found_first : (cs : List Node) (seen : List State) → NoneGood good seen → find (λ n. good n.state) (firsts seen cs) ≡ find (λ n. good n.state) cs
  found_first [] seen h = refl
  found_first (c ∷ cs) seen h = found_at c cs seen (is_met seen c.state) (good c.state) refl refl h (λ s. found_first cs s)

  none_at : (g : Bool) (n : Node) (found : Option Node) → cond g (Some n) found ≡ None → (g ≡ false) × (found ≡ None)
  none_at true n found e = absurd (cc)
  none_at false n found e = (refl, e)

  -- where no node meets the goal, none of their states does
  pub none_found : (s : State) (ns : List Node) → find (λ n. good n.state) ns ≡ None → list_any (same_state s) (states ns) ≡ true → good s ≡ false
  none_found s [] e a = absurd (cc)
  none_found s (n ∷ ns) e a =
      let w = none_at (good n.state) n (find (λ n. good n.state) ns) e in
      elim (or_cases (same_state s n.state) (list_any (same_state s) (states ns)) a) [
        | inl here ↦ ap good (state_same s n.state here) ∙ w.0
        | inr there ↦ none_found s ns w.1 there
      ]

-- ---- how many states are met

-- a new state is one more
count_more : (t : State) (seen : List State) → is_met seen t ≡ false → length (with_state seen t) ≡ length seen + 1
count_more t seen e = length-append seen (t ∷ [])

count_met_at : (x : Node) (xs : List Node) (seen : List State) (b : Bool) → is_met seen x.state ≡ b → length (met seen xs) ≡ length seen + length (firsts seen xs) → length (met (with_state seen x.state) xs) ≡ length (with_state seen x.state) + length (firsts (with_state seen x.state) xs) → length (cond b (met seen xs) (met (with_state seen x.state) xs)) ≡ length seen + length (cond b (firsts seen xs) (x ∷ firsts (with_state seen x.state) xs))
count_met_at x xs seen true e old new = old
count_met_at x xs seen false e old new = omega (arith, new, count_more x.state seen e)

-- as many more states are met as there are first nodes
pub length-met : (seen : List State) (xs : List Node) → length (met seen xs) ≡ length seen + length (firsts seen xs)
length-met seen [] = omega arith
length-met seen (x ∷ xs) = count_met_at x xs seen (is_met seen x.state) refl (length-met seen xs) (length-met (with_state seen x.state) xs)
