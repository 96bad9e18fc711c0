-- One word of a list of typed names.
use Rattle.std.proofs.Common.{◌≡◌, ℕ, ◌+◌, ◌<◌, List, [], ◌∷◌, ◌++◌, length, drop, map, get_or, true, false, None, Ok, Err, refl, sym, ◌∙◌, ap}
use Rattle.std.specs.List.{list_any}
use Rattle.std.proofs.lemmas.List.{drop_more}
use Rattle.ps_world.specs.Failures.{Gives}
use Rattle.ps_world.specs.declared.failures.Failure.{Failure}
use Rattle.ps_world.specs.Names.{same_name}
use Rattle.ps_world.specs.declared.names.Name.{Name}
use Rattle.ps_world.specs.declared.domains.Param.{Param}
use Rattle.ps_world.specs.declared.domains.Domain.{Domain}
use Rattle.ps_grammar.specs.Marks.{is}
use Rattle.ps_grammar.specs.declared.marks.Mark.TheVariants.{Minus}
use Rattle.ps_lists.specs.Nested.{Nesteds, nesteds}
use Rattle.ps_lists.specs.NestedViews.{nested}
use Rattle.ps_lists.specs.Places.{word_of}
use Rattle.ps_pddl.specs.Lists.{fault_of_new, cap_of, most_of, counted, with_name, kind_ahead, listed, listed_type}
use Rattle.ps_conditions.specs.Steps.{◌>>=◌}
use Rattle.ps_conditions.proofs.Steps.{gives_first}
use Rattle.ps_pddl.specs.declared.refusals.DomainRefusal.{DomainRefusal}
use Rattle.ps_lists.specs.declared.lexemes.Lexeme.{Lexeme}
use Rattle.ps_lists.specs.declared.trees.Tree.{Tree}
use Rattle.ps_pddl.specs.declared.meaning.lists.Listing.{Listing}

-- with nothing at fault the name follows those before
pub with_name-passes : (listing : Listing) (l : Lexeme) (kind : Name) (before : List Param) → fault_of_new (cap_of listing) (most_of listing) (counted listing (record { name = l.name; kind = kind }) before) (list_any (λ q. same_name l.name q.name) before) l ≡ None → with_name listing l kind before ≡ Ok (before ++ record { name = l.name; kind = kind } ∷ [])
with_name-passes listing l kind before e = rw e refl

-- what is left at a place, as contracts see it
abbrev pub left : List Tree → ℕ → Nesteds
left ts i = nesteds (map nested (drop i ts))

module _ (ts : List Tree) (i : ℕ) (t : Tree) (within : i < length ts) (here : t ≡ get_or ts i t) where
  -- what is left begins with the word there
  pub first : drop i ts ≡ t ∷ drop (i + 1) ts
  first = drop_more ts i t within ∙ ap (λ x. x ∷ drop (i + 1) ts) (sym here)

  -- the type of the run is that of what follows a name
  pub kind_ahead-name : is Minus (word_of (nested t)).mark ≡ false → kind_ahead (left ts i) ≡ kind_ahead (left ts (i + 1))
  kind_ahead-name e = rw (first, e) refl

  -- a type is read after `-`
  pub listed-minus : (d : Domain) (listing : Listing) (before : List Param) → is Minus (word_of (nested t)).mark ≡ true → listed d listing (left ts i) before ≡ listed_type d listing (left ts (i + 1)) before
  listed-minus d listing before e = rw (first, e) refl

  module _ (d : Domain) (listing : Listing) (l : Lexeme) (kind : Name) (before : List Param) (word : l ≡ word_of (nested t)) (name : is Minus l.mark ≡ false) (run : kind ≡ kind_ahead (left ts i)) where
    -- any other word is a name, and the run goes on
    pub run-name : kind ≡ kind_ahead (left ts (i + 1))
    run-name = run ∙ kind_ahead-name (ap (λ x. is Minus x.mark) (sym word) ∙ name)

    listed-name : listed d listing (left ts i) before ≡ with_name listing l kind before >>= λ all. listed d listing (left ts (i + 1)) all
    listed-name = rw (first, ap (λ x. is Minus x.mark) (sym word) ∙ name, ← word, ← run-name) refl

    -- the name follows those before
    pub listed-added : (all : List Param) → with_name listing l kind before ≡ Ok all → listed d listing (left ts (i + 1)) all ≡ listed d listing (left ts i) before
    listed-added all e = rw (listed-name, e) refl

    -- what is at fault with the name is at fault with the list
    pub listed-fault : (f : Failure DomainRefusal) → Gives (λ x. x) (Err f) (with_name listing l kind before) → Gives (λ x. x) (Err f) (listed d listing (left ts i) before)
    listed-fault f h = rw listed-name (gives_first (with_name listing l kind before) (λ all. listed d listing (left ts (i + 1)) all) f h)
