-- What lists mean has no fault but that of a meaning.
use Rattle.std.proofs.Common.{◌≡◌, ◌==◌, ◌+◌, ℕ, nat_le, Bool, true, false, List, [], ◌∷◌, ◌++◌, drop, length, Option, Some, None, Ok, Err, refl, subst}
use Rattle.std.specs.Bool.{if◌then◌else◌}
use Rattle.std.specs.List.{list_any, find}
use Rattle.std.specs.Option.{ok_or, option_map}
use Rattle.ps_world.specs.Names.{same_name}
use Rattle.ps_world.specs.Knowledge.{is_type, is_below, predicate_of, function_of}
use Rattle.ps_world.specs.declared.names.Name.{Name}
use Rattle.ps_world.specs.declared.domains.Param.{Param}
use Rattle.ps_world.specs.declared.domains.Decl.{Decl}
use Rattle.ps_world.specs.declared.domains.Domain.{Domain}
use Rattle.ps_world.specs.declared.schemas.Term.{Term}
use Rattle.ps_world.specs.declared.actions.ActionDef.{ActionDef}
use Rattle.ps_world.specs.declared.actions.Effect.{Effect}
use Rattle.ps_world.specs.declared.actions.Effect.TheVariants as effects
use Rattle.ps_world.specs.declared.actions.Guarded.TheVariants.{Plain, When}
use Rattle.ps_world.specs.declared.actions.NumOp.{NumOp}
use Rattle.ps_world.specs.declared.actions.Spread.{Spread}
use Rattle.ps_world.specs.declared.actions.Spread.TheVariants.{Once, ForAll}
use Rattle.ps_world.specs.declared.expressions.Expr.{Expr}
use Rattle.ps_world.specs.declared.expressions.Expr.TheVariants.{Num}
use Rattle.ps_grammar.specs.Marks.{is}
use Rattle.ps_grammar.specs.declared.marks.Mark.{Mark}
use Rattle.ps_grammar.specs.declared.marks.Mark.TheVariants as mark
use Rattle.ps_pddl.specs.Conditions as part
use Rattle.ps_pddl.specs.Effects as effect
use Rattle.ps_pddl.specs.Laws.{MeaningsHaveOwnFaults, is_of_meaning}
use Rattle.ps_pddl.specs.Lists.{binding, cap_of, most_of, counted, kept, kind_ahead, listed, listed_type, with_name}
use Rattle.ps_pddl.specs.Meaning as meaning
use Rattle.ps_pddl.specs.Meaning.{domain_of}
use Rattle.ps_lists.specs.Nested.{Nested, Nesteds, word, group, none, more}
use Rattle.ps_lists.specs.Places.{items, items_at, at, head, rest, after, section, word_of, count}
use Rattle.ps_conditions.specs.Conditions as meant
use Rattle.ps_conditions.specs.Steps.{◌>>=◌}
use Rattle.ps_pddl.specs.Steps.{Read, reads, unless}
use Rattle.ps_pddl.specs.Terms.{argument, arguments, applied, fact, lifted, resolved, term_of, value_of}
use Rattle.ps_pddl.specs.Types.{acyclic, is_cyclic, names_of, with_types}
use Rattle.ps_pddl.specs.Words.{condition, most_in_force, plain_value, scopes, second, term, value, words}
use Rattle.ps_conditions.proofs.Refusals.{AreRefused, Refuses, condition_refuses, value_refuses}
use Rattle.ps_lists.specs.declared.lexemes.Lexeme.{Lexeme}
use Rattle.ps_world.specs.declared.actions.Effects.{Effects}
use Rattle.ps_pddl.specs.declared.meaning.lists.Listing.{Listing}
use Rattle.ps_pddl.specs.declared.meaning.lists.Listing.TheVariants.{Types, Constants, Params, Bound}
use Rattle.ps_world.specs.declared.actions.Conditions.{Conditions}
use Rattle.ps_pddl.specs.declared.refusals.Cap.{Cap}
use Rattle.ps_pddl.specs.declared.refusals.Cap.TheVariants as cap
use Rattle.ps_pddl.specs.declared.refusals.DomainRefusal.{DomainRefusal}
use Rattle.ps_pddl.specs.declared.refusals.DomainRefusal.TheVariants.{Unknown, Twice, Arity, Kind, Limit}

-- ---- steps

-- a fault of a meaning
abbrev IsOwn : DomainRefusal → Type 0
IsOwn fault = is_of_meaning fault ≡ true

-- what is read, or a fault of a meaning
abbrev Own : {A : Type 0} → Read A → Type 0
Own read = Refuses IsOwn read

then_own : {A B : Type 0} (read : Read A) (f : A → Read B) → Own read → ((x : A) → Own (f x)) → Own (read >>= f)
then_own (Ok x) f h k = k x
then_own (Err fault) f h k = h

either_own : {A : Type 0} (b : Bool) (x y : Read A) → Own x → Own y → Own (if b then x else y)
either_own true x y h k = h
either_own false x y h k = k

some_own : {A : Type 0} (o : Option A) (fault : DomainRefusal) → is_of_meaning fault ≡ true → Own (ok_or o fault)
some_own None fault h = h
some_own (Some x) fault h = tt

unless_own : {A : Type 0} (b c : Bool) (one other : DomainRefusal) (read : Read A) → is_of_meaning one ≡ true → is_of_meaning other ≡ true → Own read → Own (unless (if b then Some one else (if c then Some other else None)) read)
unless_own true c one other read h k o = h
unless_own false true one other read h k o = k
unless_own false false one other read h k o = o

-- ---- terms

resolved_own : (d : Domain) (ps : List Param) (l : Lexeme) → Own (resolved d ps l)
resolved_own d ps l = some_own (term_of d ps l.mark l.name) (Unknown l.at l.name) refl

argument_own : (d : Domain) (ps : List Param) (want : Name) (l : Lexeme) → Own (argument d ps want l)
argument_own d ps want l =
    then_own (resolved d ps l) (λ t. if is_below d t.kind want then Ok t.term else Err (Kind l.at)) (resolved_own d ps l)
    (λ t. either_own (is_below d t.kind want) (Ok t.term) (Err (Kind l.at)) tt refl)

arguments_own : (d : Domain) (ps wants : List Param) (ts : Nesteds) (before : List Term) → Own (arguments d ps wants ts before)
arguments_own d ps [] ts before = tt
arguments_own d ps (want ∷ wants) none before = tt
arguments_own d ps (want ∷ wants) (more t ts) before =
    then_own (argument d ps want.kind (word_of t)) (λ term. arguments d ps wants ts (before ++ term ∷ [])) (argument_own d ps want.kind (word_of t))
    (λ term. arguments_own d ps wants ts (before ++ term ∷ []))

lifted_own : (l : Lexeme) (terms : List Term) → Own (lifted l terms)
lifted_own l terms = either_own (nat_le (length terms) 6) (Ok (record { head = l.name; terms = terms })) (Err (Arity l.at)) tt refl

applied_own : (d : Domain) (ps : List Param) (decl : Option Decl) (l : Lexeme) (ts : Nesteds) → Own (applied d ps decl l ts)
applied_own d ps None l ts = refl
applied_own d ps (Some decl) l ts =
    either_own (length decl.params == count ts) (arguments d ps decl.params ts [] >>= lifted l) (Err (Arity l.at))
    (then_own (arguments d ps decl.params ts []) (lifted l) (arguments_own d ps decl.params ts []) (lifted_own l))
    refl

fact_own : (d : Domain) (ps : List Param) (l : Lexeme) (ts : Nesteds) → Own (fact d ps l ts)
fact_own d ps l ts = applied_own d ps (predicate_of d l.name) l ts

value_of_own : (d : Domain) (ps : List Param) (l : Lexeme) (ts : Nesteds) → Own (value_of d ps l ts)
value_of_own d ps l ts = applied_own d ps (function_of d l.name) l ts

-- ---- lists

cap_own : (l : Lexeme) (listing : Listing) → is_of_meaning (Limit l.at (cap_of listing)) ≡ true
cap_own l Types = refl
cap_own l Constants = refl
cap_own l Params = refl
cap_own l (Bound most) = refl

with_name_own : (listing : Listing) (l : Lexeme) (kind : Name) (before : List Param) → Own (with_name listing l kind before)
with_name_own listing l kind before =
    let p : Param = record { name = l.name; kind = kind } in
    unless_own (nat_le (most_of listing) (counted listing p before)) (list_any (λ q. same_name l.name q.name) before) (Limit l.at (cap_of listing)) (Twice l.at l.name) (Ok (before ++ p ∷ [])) (cap_own l listing) refl tt

mutual
  listed_own : (d : Domain) (listing : Listing) (ts : Nesteds) (before : List Param) → Own (listed d listing ts before)
  listed_own d listing none before = tt
  listed_own d listing (more t ts) before =
      either_own (is mark.Minus (word_of t).mark) (listed_type d listing ts before) (with_name listing (word_of t) (kind_ahead ts) before >>= λ x. listed d listing ts x)
      (listed_type_own d listing ts before)
      (then_own (with_name listing (word_of t) (kind_ahead ts) before) (λ x. listed d listing ts x) (with_name_own listing (word_of t) (kind_ahead ts) before) (λ x. listed_own d listing ts x))

  listed_type_own : (d : Domain) (listing : Listing) (ts : Nesteds) (before : List Param) → Own (listed_type d listing ts before)
  listed_type_own d listing none before = tt
  listed_type_own d listing (more t ts) before =
      either_own (is_type d (word_of t).name) (listed d listing ts before) (Err (Unknown (word_of t).at (word_of t).name)) (listed_own d listing ts before) refl

-- ---- words, values and conditions

plain_value_own : (d : Domain) (ps : List Param) (l : Lexeme) → Own (plain_value d ps l)
plain_value_own d ps l =
    either_own (is mark.Number l.mark) (Ok (Num l.number)) (resolved d ps l >>= λ t. Err (Kind l.at)) tt
    (then_own {B = Expr} (resolved d ps l) (λ t. Err (Kind l.at)) (resolved_own d ps l) (λ t. refl))

term_own : (d : Domain) (ps : List Param) (l : Lexeme) → Own (term d ps l)
term_own d ps l = then_own (resolved d ps l) (λ t. Ok t.term) (resolved_own d ps l) (λ t. tt)

second_own : (d : Domain) (ps : List Param) (first : Lexeme) (t : Nested) → Own (second d ps first t)
second_own d ps first (group ts) = refl
second_own d ps first (word l) = either_own (is mark.Number l.mark) (Err (Kind first.at)) (term d ps l) refl (term_own d ps l)

words_own : (d : Domain) (ps : List Param) → AreRefused IsOwn (words d ps)
words_own d ps = record {
  term = term_own d ps;
  second = second_own d ps;
  worth = plain_value_own d ps;
  fact = fact_own d ps;
  function = value_of_own d ps;
}

binding_own : (d : Domain) (most : ℕ) (ps : List Param) (ts : Nesteds) → Own (binding d most ps ts)
binding_own d most ps ts = then_own (listed d (Bound most) ts ps) (λ all. Ok (drop (length ps) all)) (listed_own d (Bound most) ts ps) (λ all. tt)

value_own : (d : Domain) (ps : List Param) (t : Nested) → Own (value d ps t)
value_own d ps t = value_refuses DomainRefusal IsOwn (words d ps) (words_own d ps) t

held_own : (d : Domain) (own : ℕ) (ps : List Param) (t : Nested) → Own (meant.condition reads (scopes d own) ps t)
held_own d own ps t = condition_refuses DomainRefusal IsOwn (scopes d own) (record { words = words_own d; bound = λ ps ts. binding_own d (most_in_force own ps) ps ts }) ps t

condition_own : (d : Domain) (ps : List Param) (t : Nested) → Own (condition d ps t)
condition_own d ps t = held_own d (length ps) ps t

-- ---- the parts of an action's condition

timed_part_own : (d : Domain) (ps : List Param) (m moment : Mark) (t : Nested) (parts : Conditions) → Own (part.timed_part d ps m moment t parts)
timed_part_own d ps mark.At moment t parts = then_own (condition d ps t) (λ c. Ok (part.at_time moment c parts)) (condition_own d ps t) (λ c. tt)
timed_part_own d ps mark.Over moment t parts = then_own (condition d ps t) (λ c. Ok (part.over_all c parts)) (condition_own d ps t) (λ c. tt)
timed_part_own d ps m moment t parts = tt

timed_form_own : (d : Domain) (ps : List Param) (l : Lexeme) (ts : Nesteds) (parts : Conditions) → Own (part.timed_form d ps l ts parts)
timed_form_own d ps l none parts = tt
timed_form_own d ps l (more moment none) parts = tt
timed_form_own d ps l (more moment (more t ts)) parts = timed_part_own d ps l.mark (word_of moment).mark t parts

mutual
  timed_own : (d : Domain) (ps : List Param) (t : Nested) (parts : Conditions) → Own (part.timed d ps t parts)
  timed_own d ps (word l) parts = tt
  timed_own d ps (group ts) parts = timed_list_own d ps ts parts

  timed_list_own : (d : Domain) (ps : List Param) (ts : Nesteds) (parts : Conditions) → Own (part.timed_list d ps ts parts)
  timed_list_own d ps none parts = tt
  timed_list_own d ps (more f ts) parts =
      either_own (is mark.And (word_of f).mark) (part.all_timed d ps ts parts) (part.timed_form d ps (word_of f) ts parts) (all_timed_own d ps ts parts) (timed_form_own d ps (word_of f) ts parts)

  all_timed_own : (d : Domain) (ps : List Param) (ts : Nesteds) (parts : Conditions) → Own (part.all_timed d ps ts parts)
  all_timed_own d ps none parts = tt
  all_timed_own d ps (more t ts) parts = then_own (part.timed d ps t parts) (λ x. part.all_timed d ps ts x) (timed_own d ps t parts) (λ x. all_timed_own d ps ts x)

-- ---- effects

added_own : (d : Domain) (ps : List Param) (l : Lexeme) (ts : Nesteds) → Own (effect.added d ps l ts)
added_own d ps l ts = then_own (fact d ps l ts) (λ f. Ok (Some (effects.Add f))) (fact_own d ps l ts) (λ f. tt)

deleted_own : (d : Domain) (ps : List Param) (a : Nested) → Own (effect.deleted d ps a)
deleted_own d ps a = then_own (fact d ps (head (items a)) (rest (items a))) (λ f. Ok (Some (effects.Delete f))) (fact_own d ps (head (items a)) (rest (items a))) (λ f. tt)

changed_own : (d : Domain) (ps : List Param) (how : NumOp) (a x : Nested) → Own (effect.changed d ps how a x)
changed_own d ps how a x =
    then_own (value_of d ps (head (items a)) (rest (items a))) (λ l. value d ps x >>= λ v. Ok (Some (effects.Number how l v))) (value_of_own d ps (head (items a)) (rest (items a)))
    (λ l. then_own (value d ps x) (λ v. Ok (Some (effects.Number how l v))) (value_own d ps x) (λ v. tt))

changed_or_own : (d : Domain) (ps : List Param) (how : Option NumOp) (a x : Nested) (other : Read (Option Effect)) → Own other → Own (effect.changed_or d ps how a x other)
changed_or_own d ps None a x other o = o
changed_or_own d ps (Some how) a x other o = changed_own d ps how a x

plain_effect_own : (d : Domain) (ps : List Param) (l : Lexeme) (ts : Nesteds) → Own (effect.plain_effect d ps l ts)
plain_effect_own d ps l none = added_own d ps l none
plain_effect_own d ps l (more a none) = added_own d ps l (more a none)
plain_effect_own d ps l (more a (more x ts)) =
    changed_or_own d ps (effect.change_of l.mark) a x (effect.added d ps l (more a (more x ts))) (added_own d ps l (more a (more x ts)))

deletion_own : (d : Domain) (ps : List Param) (ts : Nesteds) → Own (effect.deletion d ps ts)
deletion_own d ps none = tt
deletion_own d ps (more a ts) = deleted_own d ps a

flat_one_own : (d : Domain) (ps : List Param) (l : Lexeme) (ts : Nesteds) → Own (effect.flat_one d ps l ts)
flat_one_own d ps l ts = either_own (is mark.Not l.mark) (effect.deletion d ps ts) (effect.plain_effect d ps l ts) (deletion_own d ps ts) (plain_effect_own d ps l ts)

module _ {A : Type 0} (one : Lexeme → Nesteds → Read (Option A)) (own : (l : Lexeme) (ts : Nesteds) → Own (one l ts)) where
  mutual
    flattened_own : (t : Nested) (before : List A) → Own (effect.flattened one t before)
    flattened_own (word l) before = tt
    flattened_own (group ts) before = flattened_form_own ts before

    flattened_form_own : (ts : Nesteds) (before : List A) → Own (effect.flattened_form one ts before)
    flattened_form_own none before = tt
    flattened_form_own (more f ts) before =
        either_own (is mark.And (word_of f).mark) (effect.all_flattened one ts before) (one (word_of f) ts >>= λ x. Ok (effect.followed_by before x)) (all_flattened_own ts before)
        (then_own (one (word_of f) ts) (λ x. Ok (effect.followed_by before x)) (own (word_of f) ts) (λ x. tt))

    all_flattened_own : (ts : Nesteds) (before : List A) → Own (effect.all_flattened one ts before)
    all_flattened_own none before = tt
    all_flattened_own (more e es) before = then_own (effect.flattened one e before) (λ x. effect.all_flattened one es x) (flattened_own e before) (λ x. all_flattened_own es x)

conditional_own : (d : Domain) (own : ℕ) (ps : List Param) (ts : Nesteds) → Own (effect.conditional d own ps ts)
conditional_own d own ps none = tt
conditional_own d own ps (more c none) = tt
conditional_own d own ps (more c (more e ts)) =
    then_own (meant.condition reads (scopes d own) ps c) (λ x. effect.flat d ps e >>= λ es. Ok (Some (When x es))) (held_own d own ps c)
    (λ x. then_own (effect.flat d ps e) (λ es. Ok (Some (When x es))) (flattened_own (effect.flat_one d ps) (flat_one_own d ps) e []) (λ es. tt))

guarded_one_own : (d : Domain) (own : ℕ) (ps : List Param) (l : Lexeme) (ts : Nesteds) → Own (effect.guarded_one d own ps l ts)
guarded_one_own d own ps l ts =
    either_own (is mark.When l.mark) (effect.conditional d own ps ts) (effect.flat_one d ps l ts >>= λ e. Ok (option_map Plain e)) (conditional_own d own ps ts)
    (then_own (effect.flat_one d ps l ts) (λ e. Ok (option_map Plain e)) (flat_one_own d ps l ts) (λ e. tt))

for_each_own : (d : Domain) (ps : List Param) (ts : Nesteds) → Own (effect.for_each d ps ts)
for_each_own d ps none = tt
for_each_own d ps (more vs none) = tt
for_each_own d ps (more vs (more e ts)) =
    then_own (effect.bound_once d ps (items vs)) (λ qs. effect.guarded d (length ps) (ps ++ qs) e >>= λ gs. Ok (Some (ForAll qs gs))) (binding_own d (length ps + 1) ps (items vs))
    (λ qs. then_own (effect.guarded d (length ps) (ps ++ qs) e) (λ gs. Ok (Some (ForAll qs gs))) (flattened_own (effect.guarded_one d (length ps) (ps ++ qs)) (guarded_one_own d (length ps) (ps ++ qs)) e []) (λ gs. tt))

spread_one_own : (d : Domain) (ps : List Param) (l : Lexeme) (ts : Nesteds) → Own (effect.spread_one d ps l ts)
spread_one_own d ps l ts =
    either_own (is mark.Forall l.mark) (effect.for_each d ps ts) (effect.guarded_one d (length ps) ps l ts >>= λ g. Ok (option_map Once g)) (for_each_own d ps ts)
    (then_own (effect.guarded_one d (length ps) ps l ts) (λ g. Ok (option_map Once g)) (guarded_one_own d (length ps) ps l ts) (λ g. tt))

effect_own : (d : Domain) (ps : List Param) (t : Nested) (before : List Spread) → Own (effect.effect d ps t before)
effect_own d ps t before = flattened_own (effect.spread_one d ps) (spread_one_own d ps) t before

effect_time_own : (d : Domain) (ps : List Param) (m : Mark) (e : Nested) (changes : Effects) → Own (effect.at_time d ps m e changes)
effect_time_own d ps mark.Start e changes = then_own (effect.effect d ps e changes.at_start) (λ es. Ok (effect.at_start changes es)) (effect_own d ps e changes.at_start) (λ es. tt)
effect_time_own d ps m e changes = then_own (effect.effect d ps e changes.at_end) (λ es. Ok (effect.at_end changes es)) (effect_own d ps e changes.at_end) (λ es. tt)

effect_part_own : (d : Domain) (ps : List Param) (m moment : Mark) (e : Nested) (changes : Effects) → Own (effect.timed_part d ps m moment e changes)
effect_part_own d ps mark.At moment e changes = effect_time_own d ps moment e changes
effect_part_own d ps m moment e changes = tt

timed_effect_own : (d : Domain) (ps : List Param) (l : Lexeme) (ts : Nesteds) (changes : Effects) → Own (effect.timed_form d ps l ts changes)
timed_effect_own d ps l none changes = tt
timed_effect_own d ps l (more moment none) changes = tt
timed_effect_own d ps l (more moment (more e ts)) changes = effect_part_own d ps l.mark (word_of moment).mark e changes

mutual
  changes_own : (d : Domain) (ps : List Param) (t : Nested) (changes : Effects) → Own (effect.timed d ps t changes)
  changes_own d ps (word l) changes = tt
  changes_own d ps (group ts) changes = changes_list_own d ps ts changes

  changes_list_own : (d : Domain) (ps : List Param) (ts : Nesteds) (changes : Effects) → Own (effect.timed_list d ps ts changes)
  changes_list_own d ps none changes = tt
  changes_list_own d ps (more f ts) changes =
      either_own (is mark.And (word_of f).mark) (effect.all_timed d ps ts changes) (effect.timed_form d ps (word_of f) ts changes) (all_changes_own d ps ts changes) (timed_effect_own d ps (word_of f) ts changes)

  all_changes_own : (d : Domain) (ps : List Param) (ts : Nesteds) (changes : Effects) → Own (effect.all_timed d ps ts changes)
  all_changes_own d ps none changes = tt
  all_changes_own d ps (more t ts) changes = then_own (effect.timed d ps t changes) (λ x. effect.all_timed d ps ts x) (changes_own d ps t changes) (λ x. all_changes_own d ps ts x)

-- ---- types

acyclic_own : (d : Domain) (p : Option Param) → Own (acyclic d p)
acyclic_own d None = tt
acyclic_own d (Some p) = refl

with_types_own : (d : Domain) (ts : Nesteds) → Own (with_types d ts)
with_types_own d ts =
    let named : Domain = record d { types = names_of ts [] } in
    then_own (listed named Types ts []) (λ all. let typed : Domain = record d { types = kept Types all } in acyclic typed (find (is_cyclic typed) typed.types)) (listed_own named Types ts [])
    (λ all. let typed : Domain = record d { types = kept Types all } in acyclic_own typed (find (is_cyclic typed) typed.types))

-- ---- predicates, functions and actions

declared_own : (d : Domain) (which : Cap) (ts : Nesteds) (before : List Decl) → is_of_meaning (Limit (head ts).at which) ≡ true → Own (meaning.declared d which ts before)
declared_own d which ts before h =
    let n = (head ts).name in
    unless_own (nat_le 256 (length before)) (list_any (λ decl. same_name n decl.name) before) (Limit (head ts).at which) (Twice (head ts).at n)
    (listed d Params (rest ts) [] >>= λ ps. Ok (before ++ record { name = n; params = ps } ∷ []))
    h refl
    (then_own (listed d Params (rest ts) []) (λ ps. Ok (before ++ record { name = n; params = ps } ∷ [])) (listed_own d Params (rest ts) []) (λ ps. tt))

all_declared_own : (d : Domain) (which : Cap) → ((l : Lexeme) → is_of_meaning (Limit l.at which) ≡ true) → (ts : Nesteds) (before : List Decl) → Own (meaning.all_declared d which ts before)
all_declared_own d which h none before = tt
all_declared_own d which h (more (word l) ts) before = all_declared_own d which h ts before
all_declared_own d which h (more (group inside) ts) before =
    then_own (meaning.declared d which inside before) (λ x. meaning.all_declared d which ts x) (declared_own d which inside before (h (head inside))) (λ x. all_declared_own d which h ts x)

duration_own : (d : Domain) (ps : List Param) (t : Option Nested) → Own (meaning.duration d ps t)
duration_own d ps None = tt
duration_own d ps (Some x) = value_own d ps x

parts_own : (d : Domain) (ps : List Param) (t : Option Nested) → Own (meaning.parts d ps t)
parts_own d ps None = tt
parts_own d ps (Some t) = timed_own d ps t (record { at_start = []; over_all = []; at_end = [] })

both_changes_own : (d : Domain) (ps : List Param) (t : Option Nested) → Own (meaning.changes d ps t)
both_changes_own d ps None = tt
both_changes_own d ps (Some t) = changes_own d ps t (record { at_start = []; at_end = [] })

action_body_own : (d : Domain) (n : Name) (ps : List Param) (ts : Nesteds) → Own (meaning.action_body d n ps ts)
action_body_own d n ps ts =
    let whole : Expr → Conditions → Effects → ActionDef = λ time holds does. record {
      name = n;
      params = ps;
      duration = time;
      conditions = holds;
      effects = does;
    } in
    let time = at (items_at (after mark.DurationKey ts)) 2 in
    let form = at (after mark.ConditionKey ts) 0 in
    let change = at (after mark.EffectKey ts) 0 in
    then_own (meaning.duration d ps time) (λ x. meaning.parts d ps form >>= λ y. meaning.changes d ps change >>= λ z. Ok (whole x y z)) (duration_own d ps time)
    (λ x. then_own (meaning.parts d ps form) (λ y. meaning.changes d ps change >>= λ z. Ok (whole x y z)) (parts_own d ps form)
    (λ y. then_own (meaning.changes d ps change) (λ z. Ok (whole x y z)) (both_changes_own d ps change) (λ z. tt)))

action_own : (d : Domain) (ts : Nesteds) (before : List ActionDef) → Own (meaning.action d ts before)
action_own d ts before =
    let n = (head ts).name in
    let ps = items_at (after mark.Parameters ts) in
    unless_own (nat_le 256 (length before)) (list_any (λ action. same_name n action.name) before) (Limit (head ts).at cap.Actions) (Twice (head ts).at n)
    (listed d Params ps [] >>= λ x. meaning.action_body d n x ts >>= λ a. Ok (before ++ a ∷ []))
    refl refl
    (then_own (listed d Params ps []) (λ x. meaning.action_body d n x ts >>= λ a. Ok (before ++ a ∷ [])) (listed_own d Params ps [])
    (λ x. then_own (meaning.action_body d n x ts) (λ a. Ok (before ++ a ∷ [])) (action_body_own d n x ts) (λ a. tt)))

actions_own : (d : Domain) (ts : Nesteds) (before : List ActionDef) → Own (meaning.actions d ts before)
actions_own d none before = tt
actions_own d (more t ts) before =
    either_own (is mark.DurativeAction (head (items t)).mark) (meaning.action d (rest (items t)) before >>= λ x. meaning.actions d ts x) (meaning.actions d ts before)
    (then_own (meaning.action d (rest (items t)) before) (λ x. meaning.actions d ts x) (action_own d (rest (items t)) before) (λ x. actions_own d ts x))
    (actions_own d ts before)

-- ---- the domain

with_constants_own : (d : Domain) (ts : Nesteds) → Own (meaning.with_constants d ts)
with_constants_own d ts = then_own {B = Domain} (listed d Constants ts []) (λ x. Ok (record d { constants = x })) (listed_own d Constants ts []) (λ x. tt)

with_predicates_own : (d : Domain) (ts : Nesteds) → Own (meaning.with_predicates d ts)
with_predicates_own d ts =
    then_own {B = Domain} (meaning.all_declared d cap.Predicates ts []) (λ x. Ok (record d { predicates = x })) (all_declared_own d cap.Predicates (λ l. refl) ts []) (λ x. tt)

with_functions_own : (d : Domain) (ts : Nesteds) → Own (meaning.with_functions d ts)
with_functions_own d ts =
    then_own {B = Domain} (meaning.all_declared d cap.Functions ts []) (λ x. Ok (record d { functions = x })) (all_declared_own d cap.Functions (λ l. refl) ts []) (λ x. tt)

with_actions_own : (d : Domain) (ts : Nesteds) → Own (meaning.with_actions d ts)
with_actions_own d ts = then_own {B = Domain} (meaning.actions d ts []) (λ x. Ok (record d { actions = x })) (actions_own d ts []) (λ x. tt)

from_functions_own : (d : Domain) (ts : Nesteds) → Own (meaning.with_functions d (section mark.Functions ts) >>= λ x. meaning.with_actions x ts)
from_functions_own d ts =
    then_own (meaning.with_functions d (section mark.Functions ts)) (λ x. meaning.with_actions x ts) (with_functions_own d (section mark.Functions ts)) (λ x. with_actions_own x ts)

from_predicates_own : (d : Domain) (ts : Nesteds) → Own (meaning.with_predicates d (section mark.Predicates ts) >>= λ x. meaning.with_functions x (section mark.Functions ts) >>= λ y. meaning.with_actions y ts)
from_predicates_own d ts =
    then_own (meaning.with_predicates d (section mark.Predicates ts)) (λ x. meaning.with_functions x (section mark.Functions ts) >>= λ y. meaning.with_actions y ts)
    (with_predicates_own d (section mark.Predicates ts)) (λ x. from_functions_own x ts)

with_sections_own : (n : Name) (ts : Nesteds) → Own (meaning.with_sections (meaning.bare n) ts)
with_sections_own n ts =
    then_own (with_types (meaning.bare n) (section mark.Types ts))
    (λ d. meaning.with_constants d (section mark.Constants ts) >>= λ x. meaning.with_predicates x (section mark.Predicates ts) >>= λ y. meaning.with_functions y (section mark.Functions ts) >>= λ z. meaning.with_actions z ts)
    (with_types_own (meaning.bare n) (section mark.Types ts))
    (λ d. then_own (meaning.with_constants d (section mark.Constants ts))
    (λ x. meaning.with_predicates x (section mark.Predicates ts) >>= λ y. meaning.with_functions y (section mark.Functions ts) >>= λ z. meaning.with_actions z ts)
    (with_constants_own d (section mark.Constants ts)) (λ x. from_predicates_own x ts))

domain_own : (text : Nesteds) → Own (domain_of text)
unfolding domain_of
domain_own text = let inside = items_at text in with_sections_own (head (rest (items_at (rest inside)))).name (rest (rest inside))

pub meanings_have_own_faults : MeaningsHaveOwnFaults
meanings_have_own_faults ts r e = subst Own e (domain_own ts)
