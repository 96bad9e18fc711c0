-- The lists that the words of a line spell, and what the line's form takes of them.
use Rattle.std.proofs.Common.{◌≡◌, ℕ, zero, suc, true, Some, List, [], ◌∷◌, ◌++◌, length, None, refl, ap, ◌∙◌}
use Rattle.std.proofs.lemmas.List.Elements.{All-nil}
use Rattle.ps_world.specs.Names.{Table, name_text}
use Rattle.ps_world.specs.Trees.{CondTree, CondTrees, all_of, any_of, no, implied, holds, same, compares, is_a, for_some, for_all}
use Rattle.ps_world.specs.Trees as tree
use Rattle.ps_world.specs.declared.domains.Param.{Param}
use Rattle.ps_world.specs.declared.names.Name.{Name}
use Rattle.ps_text.specs.Names.{AreNames}
use Rattle.ps_text.specs.Tokens.{class_of}
use Rattle.ps_text.specs.declared.lexing.Class.TheVariants as class
use Rattle.ps_grammar.specs.Marks.{is_name}
use Rattle.ps_grammar.specs.declared.symbols.Symbol.{Symbol}
use Rattle.ps_grammar.specs.declared.symbols.Symbol.TheVariants.{AnyName}
use Rattle.ps_lists.specs.Lexemes.{mark_of}
use Rattle.ps_lists.specs.Nested.{Nested, Nesteds, word, group, none, more}
use Rattle.ps_lists.specs.Places.{rest}
use Rattle.ps_lists.proofs.OneWord as one
use Rattle.ps_print.specs.CanonicalWords.{cond_words, IsCondOf, IsNameOf, IsParamOf}
use Rattle.ps_pddl.proofs.CanonicalForms.{IsNamed, IsCondForm}
use Rattle.ps_pddl.proofs.Fits.{BindsFree, BindFree, IsVariableName}
use Rattle.ps_pddl.proofs.NameMarks.{name_mark-is_name}
use Rattle.ps_pddl.proofs.MeanTerms.{named-is_name}
use Rattle.ps_pddl.proofs.SpeltParts.{name_first, spelt_cond}
use Rattle.ps_pddl.proofs.SpeltWords.{AllSpelt, all_last, is_plain, nothing_spelt, one_last, word_first}
use Rattle.ps_lists.proofs.TakenLines.{TakesLine}
use Rattle.ps_script.specs.Scopes.{stray, strays}
use Rattle.ps_script_laws.specs.Sayable.{HasGoalHeads, HaveGoalHeads}
use Rattle.ps_script_laws.proofs.GoalScopes.{name_stays}

-- so many fixed words, which are names, and then lists with this property
abbrev pub Fixed : ℕ → (Nesteds → Type 0) → Nesteds → Type 0
Fixed zero P ts = P ts
Fixed (suc k) P none = ⊥
Fixed (suc k) P (more (word l) ts) = (is_name l.mark ≡ true) × Fixed k P ts
Fixed (suc k) P (more (group us) ts) = ⊥

-- the words are these names, and no more
abbrev pub AreNamed : Table → List Name → Nesteds → Type 0
AreNamed names [] none = Unit {0}
AreNamed names (n ∷ ns) (more (word l) ts) = IsNamed names n l × AreNamed names ns ts
AreNamed names ns ts = ⊥

-- the form of a condition, and no more
abbrev pub IsOneCond : Table → CondTree → Nesteds → Type 0
IsOneCond names c (more t none) = IsCondForm names [] c t
IsOneCond names c ts = ⊥

-- ---- variables

mutual
  -- a goal that can be said binds what may be a variable
  pub heads_free : (names : Table) (ps : List Param) (c : CondTree) → HasGoalHeads names ps c → BindsFree names ps c
  heads_free names ps (all_of cs) h = all_heads_free names ps cs h
  heads_free names ps (any_of cs) h = (tt, all_heads_free names ps cs h.1)
  heads_free names ps (no c) h = heads_free names ps c h
  heads_free names ps (implied a b) h = (tt, (heads_free names ps a h.1.0, heads_free names ps b h.1.1))
  heads_free names ps (holds l) h = tt
  heads_free names ps (same s t) h = (tt, tt)
  heads_free names ps (compares rel x y) h = (tt, tt)
  heads_free names ps (is_a t kind) h = tt
  heads_free names ps (for_some qs c) h = (h.0.free, heads_free names (ps ++ qs) c h.1)
  heads_free names ps (for_all qs c) h = (h.0.free, heads_free names (ps ++ qs) c h.1)

  all_heads_free : (names : Table) (ps : List Param) (cs : CondTrees) → HaveGoalHeads names ps cs → BindFree names ps cs
  all_heads_free names ps tree.none h = tt
  all_heads_free names ps (tree.more c cs) h = (heads_free names ps c h.0, all_heads_free names ps cs h.1)

-- ---- words

-- a fixed word before others
pub fixed_first : {names : Table} {ws : List (List ℕ)} (k : ℕ) (P : Nesteds → Type 0) (w : List ℕ) → class_of w ≡ Some class.Name → is_plain (mark_of class.Name w) ≡ true → is_name (mark_of class.Name w) ≡ true → AllSpelt names ws (Fixed k P) → AllSpelt names (w ∷ ws) (Fixed (suc k) P)
fixed_first k P w c p n s = word_first w class.Name c p (λ l is. all_last s (λ ts h. (ap is_name (is.mark class.Name c) ∙ n, h)))

module _ (names : Table) (good : AreNames names) where
  pub no_names_spelt : AllSpelt names [] (AreNamed names [])
  no_names_spelt = nothing_spelt tt

  pub one_name_spelt : (n : Name) → IsNameOf (length names) n → AllSpelt names (name_text names n ∷ []) (AreNamed names (n ∷ []))
  one_name_spelt n h = name_first names good n h (λ l is. nothing_spelt (is, tt))

  pub two_names_spelt : (m n : Name) → IsNameOf (length names) m → IsNameOf (length names) n → AllSpelt names (name_text names m ∷ name_text names n ∷ []) (AreNamed names (m ∷ n ∷ []))
  two_names_spelt m n g h = name_first names good m g (λ k was. name_first names good n h (λ l is. nothing_spelt (was, (is, tt))))

  pub cond_spelt : (c : CondTree) → IsCondOf (length names) [] c → BindsFree names [] c → AllSpelt names (cond_words names [] c) (IsOneCond names c)
  cond_spelt c h free = one_last (spelt_cond names good [] (All-nil (IsParamOf (length names))) (All-nil (λ (p : Param). IsVariableName names p.name)) c h free) (λ t form. form)

-- ---- what is taken

-- names are wanted, and then these
abbrev pub names_before : ℕ → List Symbol → List Symbol
names_before zero st = st
names_before (suc k) st = AnyName ∷ names_before k st

pub fixed_taken : (k : ℕ) (P : Nesteds → Type 0) (ts : Nesteds) (st : List Symbol) → Fixed k P ts → ((us : Nesteds) → P us → TakesLine us st) → TakesLine ts (names_before k st)
fixed_taken zero P ts st h next = next ts h
fixed_taken (suc k) P none st h next = absurd h
fixed_taken (suc k) P (more (group us) ts) st h next = absurd h
fixed_taken (suc k) P (more (word l) ts) st h next =
    one.name_fits (names_before k st) (λ now. TakesLine ts now) l.mark h.0 (fixed_taken k P ts st h.1 next)

pub named_taken : (names : Table) (ns : List Name) (ts : Nesteds) → AreNamed names ns ts → TakesLine ts (names_before (length ns) [])
named_taken names [] none h = refl
named_taken names [] (more t ts) h = absurd h
named_taken names (n ∷ ns) none h = absurd h
named_taken names (n ∷ ns) (more (group us) ts) h = absurd h
named_taken names (n ∷ ns) (more (word l) ts) h =
    one.name_fits (names_before (length ns) []) (λ now. TakesLine ts now) l.mark (ap is_name h.0.mark ∙ name_mark-is_name names n) (named_taken names ns ts h.1)

-- ---- what follows the fixed words

abbrev pub after_fixed : ℕ → Nesteds → Nesteds
after_fixed zero ts = ts
after_fixed (suc k) ts = after_fixed k (rest ts)

pub fixed_rest : (k : ℕ) (P : Nesteds → Type 0) (ts : Nesteds) → Fixed k P ts → P (after_fixed k ts)
fixed_rest zero P ts h = h
fixed_rest (suc k) P none h = absurd h
fixed_rest (suc k) P (more (group us) ts) h = absurd h
fixed_rest (suc k) P (more (word l) ts) h = fixed_rest k P ts h.1

-- ---- variables that stay in their scope

pub fixed_stays : (k : ℕ) (P : Nesteds → Type 0) (ts : Nesteds) → Fixed k P ts → ((us : Nesteds) → P us → strays [] us ≡ None) → strays [] ts ≡ None
fixed_stays zero P ts h next = next ts h
fixed_stays (suc k) P none h next = refl
fixed_stays (suc k) P (more (group us) ts) h next = absurd h
fixed_stays (suc k) P (more (word l) ts) h next = rw (name_stays [] l h.0) (fixed_stays k P ts h.1 next)

pub named_stays : (names : Table) (ns : List Name) (ts : Nesteds) → AreNamed names ns ts → strays [] ts ≡ None
named_stays names [] none h = refl
named_stays names [] (more t ts) h = absurd h
named_stays names (n ∷ ns) none h = refl
named_stays names (n ∷ ns) (more (group us) ts) h = absurd h
named_stays names (n ∷ ns) (more (word l) ts) h = rw (name_stays [] l (named-is_name names n l h.0)) (named_stays names ns ts h.1)

pub one_cond_stays : (names : Table) (c : CondTree) → ((t : Nested) → IsCondForm names [] c t → stray [] t ≡ None) → (us : Nesteds) → IsOneCond names c us → strays [] us ≡ None
one_cond_stays names c stays none h = refl
one_cond_stays names c stays (more t none) h = rw (stays t h) refl
one_cond_stays names c stays (more t (more u us)) h = absurd h
