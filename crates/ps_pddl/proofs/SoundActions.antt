-- Declarations and actions that are read are sound, and so is the whole domain.
use Rattle.std.proofs.Common.{◌≡◌, ◌≤◌, ◌||◌, nat_le, ℕ, zero, suc, All, Bool, true, false, List, [], ◌∷◌, ◌++◌, length, get_or, Option, Some, None, Ok, refl, sym, ap, subst, ◌∙◌, arith}
use Rattle.std.specs.Bool.{if◌then◌else◌}
use Rattle.std.specs.List.{list_any}
use Rattle.std.proofs.lemmas.Bool.{leb-false}
use Rattle.std.proofs.lemmas.List.{length-append}
use Rattle.std.proofs.lemmas.List.Elements.{All-push}
use Rattle.ps_world.specs.Names.{same_name, object}
use Rattle.ps_world.specs.declared.names.Name.{Name}
use Rattle.ps_world.specs.declared.domains.Param.{Param}
use Rattle.ps_world.specs.declared.domains.Decl.{Decl}
use Rattle.ps_world.specs.declared.domains.Domain.{Domain}
use Rattle.ps_world.specs.declared.actions.ActionDef.{ActionDef}
use Rattle.ps_world.specs.declared.expressions.Expr.{Expr}
use Rattle.ps_grammar.specs.Marks.{is}
use Rattle.ps_grammar.specs.declared.marks.Mark.{Mark}
use Rattle.ps_grammar.specs.declared.marks.Mark.TheVariants as mark
use Rattle.ps_pddl.specs.Laws.{DomainsAreWellFormed}
use Rattle.ps_pddl.specs.Lists.{listed}
use Rattle.ps_pddl.specs.Meaning as meaning
use Rattle.ps_pddl.specs.Meaning.{domain_of}
use Rattle.ps_lists.specs.Nested.{Nested, Nesteds, word, group, none, more}
use Rattle.ps_lists.specs.Places.{after, at, head, items, items_at, rest, section, word_of}
use Rattle.ps_conditions.specs.Steps.{◌>>=◌}
use Rattle.ps_pddl.specs.Types.{with_types}
use Rattle.ps_pddl.specs.WellFormed.{AreApart, AreCounted, AreDeclared, AreTyped, IsAction, IsCounted, IsWellFormed}
use Rattle.ps_world.specs.declared.actions.Effects.{Effects}
use Rattle.ps_pddl.specs.declared.meaning.lists.Listing.TheVariants.{Constants, Params}
use Rattle.ps_world.specs.declared.actions.Conditions.{Conditions}
use Rattle.ps_pddl.specs.declared.refusals.Cap.{Cap}
use Rattle.ps_pddl.specs.declared.refusals.Cap.TheVariants as cap
use Rattle.ps_pddl.specs.declared.refusals.DomainRefusal.TheVariants.{Limit, Twice}
use Rattle.ps_pddl.proofs.Sound.{Sound, Fits, then_sound, either_sound, unless_sound, each_sound, whole, leads_whole}
use Rattle.ps_pddl.proofs.SoundConditions.{AreParts, timed_sound}
use Rattle.ps_pddl.proofs.SoundEffects.{AreChanges, changes_sound}
use Rattle.ps_pddl.proofs.SoundLists.{apart_push, constants_sound, params_sound}
use Rattle.ps_pddl.proofs.SoundTerms.{acting, IsValue, value_sound}
use Rattle.ps_pddl.proofs.SoundTypes.{HasTypes, types_sound}

-- ---- numbers within the limits, at a place

items_counted : (t : Nested) → IsCounted t → AreCounted (items t)
items_counted (word l) h = tt
items_counted (group ts) h = h

rest_counted : (ts : Nesteds) → AreCounted ts → AreCounted (rest ts)
rest_counted none h = tt
rest_counted (more t ts) h = h.1

items_at_counted : (ts : Nesteds) → AreCounted ts → AreCounted (items_at ts)
items_at_counted none h = tt
items_at_counted (more t ts) h = items_counted t h.0

at_counted : (ts : Nesteds) (i : ℕ) → AreCounted ts → Fits IsCounted (at ts i)
at_counted none i h = tt
at_counted (more t ts) zero h = h.0
at_counted (more t ts) (suc i) h = at_counted ts i h.1

either_counted : (b : Bool) (ts us : Nesteds) → AreCounted ts → AreCounted us → AreCounted (if b then ts else us)
either_counted true ts us h k = h
either_counted false ts us h k = k

after_counted : (m : Mark) (ts : Nesteds) → AreCounted ts → AreCounted (after m ts)
after_counted m none h = tt
after_counted m (more t ts) h = either_counted (is m (word_of t).mark) ts (after m ts) h.1 (after_counted m ts h.1)

-- ---- lists

none_all : {T : Type 0} (P : T → Type 0) → All P []
none_all P k x lt = absurd (omega (arith, lt))

none_apart : {T : Type 0} (name_of : T → Name) → AreApart name_of []
none_apart name_of i j x lt within = absurd (omega (arith, within))

few_push : {T : Type 0} (xs : List T) (x : T) → nat_le 256 (length xs) ≡ false → length (xs ++ x ∷ []) ≤ 256
few_push xs x e = rw (length-append xs (x ∷ [])) (omega (arith, leb-false 256 (length xs) e))

-- ---- declarations

declared_sound : (d : Domain) (which : Cap) (ts : Nesteds) (before : List Decl) → AreDeclared d before → Sound (AreDeclared d) (meaning.declared d which ts before)
declared_sound d which ts before h =
    let n = (head ts).name in
    unless_sound (AreDeclared d) (nat_le 256 (length before)) (list_any (λ decl. same_name n decl.name) before) (Limit (head ts).at which) (Twice (head ts).at n)
    (listed d Params (rest ts) [] >>= λ ps. Ok (before ++ record { name = n; params = ps } ∷ []))
    (λ few new. then_sound (AreTyped d 6) (AreDeclared d) (listed d Params (rest ts) []) (λ ps. Ok (before ++ record { name = n; params = ps } ∷ [])) (params_sound d (rest ts))
    (λ ps k.
    let decl : Decl = record { name = n; params = ps } in
    record {
      few = few_push before decl few;
      apart = apart_push (λ decl. decl.name) before decl h.apart new;
      params = All-push (λ decl. AreTyped d 6 decl.params) before decl h.params k;
    }))

all_declared_sound : (d : Domain) (which : Cap) (ts : Nesteds) (before : List Decl) → AreDeclared d before → Sound (AreDeclared d) (meaning.all_declared d which ts before)
all_declared_sound d which none before h = h
all_declared_sound d which (more (word l) ts) before h = all_declared_sound d which ts before h
all_declared_sound d which (more (group inside) ts) before h =
    then_sound (AreDeclared d) (AreDeclared d) (meaning.declared d which inside before) (λ x. meaning.all_declared d which ts x) (declared_sound d which inside before h) (λ x k. all_declared_sound d which ts x k)

none_declared : (d : Domain) → AreDeclared d []
none_declared d = record { few = omega arith; apart = none_apart (λ decl. decl.name); params = none_all (λ decl. AreTyped d 6 decl.params) }

-- ---- actions

module _ (d : Domain) (acts : List ActionDef) where
  duration_sound : (ps : List Param) (t : Option Nested) → Fits IsCounted t → Sound (IsValue d acts ps) (meaning.duration d ps t)
  duration_sound ps None h = omega arith
  duration_sound ps (Some x) h = value_sound d acts ps x h

  parts_sound : (ps : List Param) (typed : AreTyped (acting d acts) 6 ps) (t : Option Nested) → Fits IsCounted t → Sound (AreParts d acts ps typed) (meaning.parts d ps t)
  parts_sound ps typed None h = (none_all _, none_all _, none_all _)
  parts_sound ps typed (Some t) h = timed_sound d acts ps typed t (record { at_start = []; over_all = []; at_end = [] }) h (none_all _, none_all _, none_all _)

  both_changes_sound : (ps : List Param) (typed : AreTyped (acting d acts) 6 ps) (t : Option Nested) → Fits IsCounted t → Sound (AreChanges d acts ps typed) (meaning.changes d ps t)
  both_changes_sound ps typed None h = (none_all _, none_all _)
  both_changes_sound ps typed (Some t) h = changes_sound d acts ps typed t (record { at_start = []; at_end = [] }) h (none_all _, none_all _)

  -- an action with this name
  abbrev IsNamed : Name → ActionDef → Type 0
  IsNamed n a = (a.name ≡ n) × IsAction (acting d acts) a

  action_body_sound : (n : Name) (ps : List Param) (ts : Nesteds) → AreCounted ts → AreTyped (acting d acts) 6 ps → Sound (IsNamed n) (meaning.action_body d n ps ts)
  action_body_sound n ps ts h k =
      let made : Expr → Conditions → Effects → ActionDef = λ time holds does. record {
        name = n;
        params = ps;
        duration = time;
        conditions = holds;
        effects = does;
      } in
      let time = at (items_at (after mark.DurationKey ts)) 2 in
      let form = at (after mark.ConditionKey ts) 0 in
      let change = at (after mark.EffectKey ts) 0 in
      then_sound (IsValue d acts ps) (IsNamed n) (meaning.duration d ps time) (λ x. meaning.parts d ps form >>= λ y. meaning.changes d ps change >>= λ z. Ok (made x y z))
      (duration_sound ps time (at_counted (items_at (after mark.DurationKey ts)) 2 (items_at_counted (after mark.DurationKey ts) (after_counted mark.DurationKey ts h))))
      (λ x one. then_sound (AreParts d acts ps k) (IsNamed n) (meaning.parts d ps form) (λ y. meaning.changes d ps change >>= λ z. Ok (made x y z))
      (parts_sound ps k form (at_counted (after mark.ConditionKey ts) 0 (after_counted mark.ConditionKey ts h)))
      (λ y two. then_sound (AreChanges d acts ps k) (IsNamed n) (meaning.changes d ps change) (λ z. Ok (made x y z))
      (both_changes_sound ps k change (at_counted (after mark.EffectKey ts) 0 (after_counted mark.EffectKey ts h)))
      (λ z three. (
        refl,
        record {
          params = k;
          duration = one;
          start = two.0;
          over = two.1;
          end = two.2;
          at_start = three.0;
          at_end = three.1;
        },
      ))))

  -- actions that are few, apart and sound
  abbrev pub AreActions : List ActionDef → Type 0
  AreActions all = (length all ≤ 256) × AreApart (λ a. a.name) all × All (IsAction (acting d acts)) all

  typed_acting : (ps : List Param) → AreTyped d 6 ps → AreTyped (acting d acts) 6 ps
  typed_acting ps h = record { few = h.few; apart = h.apart; kinds = h.kinds }

  action_sound : (ts : Nesteds) (before : List ActionDef) → AreCounted ts → AreActions before → Sound AreActions (meaning.action d ts before)
  action_sound ts before h k =
      let n = (head ts).name in
      let ps = items_at (after mark.Parameters ts) in
      unless_sound AreActions (nat_le 256 (length before)) (list_any (λ action. same_name n action.name) before) (Limit (head ts).at cap.Actions) (Twice (head ts).at n)
      (listed d Params ps [] >>= λ x. meaning.action_body d n x ts >>= λ a. Ok (before ++ a ∷ []))
      (λ few new. then_sound (AreTyped d 6) AreActions (listed d Params ps []) (λ x. meaning.action_body d n x ts >>= λ a. Ok (before ++ a ∷ [])) (params_sound d ps)
      (λ x one. then_sound (IsNamed n) AreActions (meaning.action_body d n x ts) (λ a. Ok (before ++ a ∷ [])) (action_body_sound n x ts h (typed_acting x one))
      (λ a two. (few_push before a few, apart_push (λ a. a.name) before a k.1 (subst (λ m. list_any (λ action. same_name m action.name) before ≡ false) (sym two.0) new), All-push (IsAction (acting d acts)) before a k.2 two.1))))

  actions_sound : (ts : Nesteds) (before : List ActionDef) → AreCounted ts → AreActions before → Sound AreActions (meaning.actions d ts before)
  actions_sound none before h k = k
  actions_sound (more t ts) before h k =
      either_sound AreActions (is mark.DurativeAction (head (items t)).mark) (meaning.action d (rest (items t)) before >>= λ x. meaning.actions d ts x) (meaning.actions d ts before)
      (λ e. then_sound AreActions AreActions (meaning.action d (rest (items t)) before) (λ x. meaning.actions d ts x)
      (action_sound (rest (items t)) before (rest_counted (items t) (items_counted t h.0)) k)
      (λ x one. actions_sound ts x h.1 one))
      (λ e. actions_sound ts before h.1 k)

-- ---- what is declared so far

abbrev HasConstants : Domain → Type 0
HasConstants d = HasTypes d × AreTyped d 1000 d.constants

abbrev HasPredicates : Domain → Type 0
HasPredicates d = HasConstants d × AreDeclared d d.predicates

abbrev HasFunctions : Domain → Type 0
HasFunctions d = HasPredicates d × AreDeclared d d.functions

module _ (d : Domain) (cs : List Param) (ps fs : List Decl) (acts : List ActionDef) where
  typed_whole : (most : ℕ) (xs : List Param) → AreTyped d most xs → AreTyped (whole d cs ps fs acts) most xs
  typed_whole most xs h = record { few = h.few; apart = h.apart; kinds = h.kinds }

  declared_whole : (xs : List Decl) → AreDeclared d xs → AreDeclared (whole d cs ps fs acts) xs
  declared_whole xs h = record { few = h.few; apart = h.apart; params = λ k x lt. typed_whole 6 (get_or xs k x).params (h.params k x lt) }

  types_whole : HasTypes d → HasTypes (whole d cs ps fs acts)
  types_whole h = (
    typed_whole 256 d.types h.0,
    λ k p lt.
        let here = get_or d.types k p in
        ap (λ b. same_name here.name object || b) (leads_whole d cs ps fs acts (length d.types) here.kind here.name) ∙ h.1 k p lt,
  )

constants_kept : (d : Domain) (ps fs : List Decl) (acts : List ActionDef) → HasConstants d → HasConstants (whole d d.constants ps fs acts)
constants_kept d ps fs acts h = (types_whole d d.constants ps fs acts h.0, typed_whole d d.constants ps fs acts 1000 d.constants h.1)

predicates_kept : (d : Domain) (fs : List Decl) (acts : List ActionDef) → HasPredicates d → HasPredicates (whole d d.constants d.predicates fs acts)
predicates_kept d fs acts h = (constants_kept d d.predicates fs acts h.0, declared_whole d d.constants d.predicates fs acts d.predicates h.1)

functions_kept : (d : Domain) (acts : List ActionDef) → HasFunctions d → HasFunctions (acting d acts)
functions_kept d acts h = (predicates_kept d d.functions acts h.0, declared_whole d d.constants d.predicates d.functions acts d.functions h.1)

-- ---- the domain

with_constants_sound : (d : Domain) (ts : Nesteds) → HasTypes d → Sound HasConstants (meaning.with_constants d ts)
with_constants_sound d ts h =
    then_sound (AreTyped d 1000) HasConstants (listed d Constants ts []) (λ x. Ok (record d { constants = x })) (constants_sound d ts)
    (λ x k. (types_whole d x d.predicates d.functions d.actions h, typed_whole d x d.predicates d.functions d.actions 1000 x k))

with_predicates_sound : (d : Domain) (ts : Nesteds) → HasConstants d → Sound HasPredicates (meaning.with_predicates d ts)
with_predicates_sound d ts h =
    then_sound (AreDeclared d) HasPredicates (meaning.all_declared d cap.Predicates ts []) (λ x. Ok (record d { predicates = x })) (all_declared_sound d cap.Predicates ts [] (none_declared d))
    (λ x k. (constants_kept d x d.functions d.actions h, declared_whole d d.constants x d.functions d.actions x k))

with_functions_sound : (d : Domain) (ts : Nesteds) → HasPredicates d → Sound HasFunctions (meaning.with_functions d ts)
with_functions_sound d ts h =
    then_sound (AreDeclared d) HasFunctions (meaning.all_declared d cap.Functions ts []) (λ x. Ok (record d { functions = x })) (all_declared_sound d cap.Functions ts [] (none_declared d))
    (λ x k. (predicates_kept d x d.actions h, declared_whole d d.constants d.predicates x d.actions x k))

all_well_formed : (d : Domain) (acts : List ActionDef) → HasFunctions (acting d acts) → AreActions d acts acts → IsWellFormed (acting d acts)
all_well_formed d acts h k = record {
  types = h.0.0.0.0;
  no_cycle = h.0.0.0.1;
  constants = h.0.0.1;
  predicates = h.0.1;
  functions = h.1;
  few_actions = k.0;
  actions_apart = k.1;
  actions = k.2;
}

with_actions_sound : (d : Domain) (ts : Nesteds) → AreCounted ts → HasFunctions d → Sound IsWellFormed (meaning.with_actions d ts)
with_actions_sound d ts counted h =
    then_sound (λ x. (acts : List ActionDef) → AreActions d acts x) IsWellFormed (meaning.actions d ts []) (λ x. Ok (record d { actions = x }))
    (each_sound (AreActions d) (meaning.actions d ts []) (λ acts. actions_sound d acts ts [] counted (omega arith, none_apart (λ a. a.name), none_all (IsAction (acting d acts)))))
    (λ x k. all_well_formed d x (functions_kept d x h) (k x))

from_functions_sound : (d : Domain) (ts : Nesteds) → AreCounted ts → HasPredicates d → Sound IsWellFormed (meaning.with_functions d (section mark.Functions ts) >>= λ x. meaning.with_actions x ts)
from_functions_sound d ts counted h =
    then_sound HasFunctions IsWellFormed (meaning.with_functions d (section mark.Functions ts)) (λ x. meaning.with_actions x ts) (with_functions_sound d (section mark.Functions ts) h) (λ x k. with_actions_sound x ts counted k)

from_predicates_sound : (d : Domain) (ts : Nesteds) → AreCounted ts → HasConstants d → Sound IsWellFormed (meaning.with_predicates d (section mark.Predicates ts) >>= λ x. meaning.with_functions x (section mark.Functions ts) >>= λ y. meaning.with_actions y ts)
from_predicates_sound d ts counted h =
    then_sound HasPredicates IsWellFormed (meaning.with_predicates d (section mark.Predicates ts)) (λ x. meaning.with_functions x (section mark.Functions ts) >>= λ y. meaning.with_actions y ts)
    (with_predicates_sound d (section mark.Predicates ts) h) (λ x k. from_functions_sound x ts counted k)

with_sections_sound : (n : Name) (ts : Nesteds) → AreCounted ts → Sound IsWellFormed (meaning.with_sections (meaning.bare n) ts)
with_sections_sound n ts counted =
    then_sound HasTypes IsWellFormed (with_types (meaning.bare n) (section mark.Types ts))
    (λ d. meaning.with_constants d (section mark.Constants ts) >>= λ x. meaning.with_predicates x (section mark.Predicates ts) >>= λ y. meaning.with_functions y (section mark.Functions ts) >>= λ z. meaning.with_actions z ts)
    (types_sound (meaning.bare n) (section mark.Types ts))
    (λ d h. then_sound HasConstants IsWellFormed (meaning.with_constants d (section mark.Constants ts))
    (λ x. meaning.with_predicates x (section mark.Predicates ts) >>= λ y. meaning.with_functions y (section mark.Functions ts) >>= λ z. meaning.with_actions z ts)
    (with_constants_sound d (section mark.Constants ts) h) (λ x k. from_predicates_sound x ts counted k))

domain_sound : (text : Nesteds) → AreCounted text → Sound IsWellFormed (domain_of text)
unfolding domain_of
domain_sound text counted =
    let inside = items_at text in
    with_sections_sound (head (rest (items_at (rest inside)))).name (rest (rest inside)) (rest_counted (rest inside) (rest_counted inside (items_at_counted text counted)))

pub domains_are_well_formed : DomainsAreWellFormed
domains_are_well_formed ts d counted e = subst (Sound IsWellFormed) e (domain_sound ts counted)
