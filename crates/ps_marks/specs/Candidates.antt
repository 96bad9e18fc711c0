-- The first facts that could be known and aren't, without listing all.
use Rattle.std.specs.Prelude.{◌≡◌, ◌⊎◌, ℕ, Bool, false, true, not, ◌&&◌, Option, Some, None, List, [], ◌++◌, filter, flat_map, fold, length, map, take, zip}
use Rattle.std.specs.BTreeSet.{insert_key}
use Rattle.std.specs.List.Sorted.{IsStrictlySortedBy}
use Rattle.std.specs.declared.cmp.Ordering.TheVariants.{Less}
use Rattle.ps_world.specs.Facts.{fact_cmp}
use Rattle.ps_world.specs.Knowledge.{is_known, kind_of}
use Rattle.ps_world.specs.Names.{name_cmp}
use Rattle.ps_world.specs.declared.domains.Domain.{Domain}
use Rattle.ps_world.specs.declared.domains.Param.{Param}
use Rattle.ps_world.specs.declared.facts.Fact.{Fact}
use Rattle.ps_world.specs.declared.known.Knowledge.{Knowledge}
use Rattle.ps_world.specs.declared.names.Name.{Name}
use Rattle.ps_world.specs.declared.schemas.Lifted.{Lifted}
use Rattle.ps_action.specs.Grounding.{picks}
use Rattle.ps_action.specs.Places.{hole_meets}
use Rattle.ps_action.specs.Truth.{fits}
use Rattle.ps_action.specs.declared.acts.GroundAction.{GroundAction}
use Rattle.ps_marks.specs.Atoms.{can_make, facts_at, names_known}
use Rattle.ps_marks.specs.Closures.{closure, is_in, is_usable}
use Rattle.ps_marks.specs.Landmarks.{most_candidates}

-- ---- the facts at a place, in order

-- whether a name may stand for a parameter where that is at a place
abbrev pub is_choice : Domain → Knowledge → Param → Option Name → Name → Bool
is_choice d k p hole n = hole_meets hole (Some n) && fits d (kind_of k n) p.kind

-- the instances that may, rising
abbrev pub choices_at : Domain → Knowledge → Param → Option Name → List Name
choices_at d k p hole = fold (insert_key name_cmp) [] (filter (is_choice d k p hole) (names_known k))

-- the same for each parameter
abbrev pub all_choices : Domain → Knowledge → List Param → List (Option Name) → List (List Name)
all_choices d k ps holes = map (λ pair. choices_at d k pair.0 pair.1) (zip ps holes)

-- the facts of a head whose arguments begin with the first ones and go on with each of these lists
abbrev pub facts_from : Name → List Name → List (List Name) → List Fact
facts_from head first lists = map (λ args. record { head = head; args = first ++ args }) lists

-- those of these facts that aren't known
abbrev pub unknown : Knowledge → List Fact → List Fact
unknown k fs = filter (λ f. not (is_known k f)) fs

-- the first unknown facts of a head with one of each of these choices as arguments
abbrev pub first_with : Knowledge → Name → List (List Name) → List Fact
first_with k head choices = take most_candidates (unknown k (facts_from head [] (picks choices)))

-- these are the first of the unknown facts of declared arguments at a place
pub record IsFirst (d : Domain) (k : Knowledge) (l : Lifted) (facts : List Fact) : Type 0 where
  pub all : List Fact
  pub rise : IsStrictlySortedBy fact_cmp all
  pub only : (x : Fact) → is_in all x ≡ true → (is_in (facts_at d k l) x ≡ true) × (is_known k x ≡ false)
  pub has : (x : Fact) → is_in (facts_at d k l) x ≡ true → is_known k x ≡ false → is_in all x ≡ true
  pub first : facts ≡ take most_candidates all

-- the facts that those of these ground actions can make that are usable in the closure
abbrev pub made_in : Domain → Knowledge → List GroundAction → List Fact
made_in d k gs = flat_map (can_make d k) (filter (is_usable d k None (closure d k None)) gs)

-- ---- facts collected

-- so many of these facts stand before this one
pub record AreBefore (n : ℕ) (fs : List Fact) (x : Fact) : Type 0 where
  pub some : List Fact
  pub rise : IsStrictlySortedBy fact_cmp some
  pub many : length some ≡ n
  pub there : (y : Fact) → is_in some y ≡ true → is_in fs y ≡ true
  pub before : (y : Fact) → is_in some y ≡ true → fact_cmp y x ≡ Less

-- To the old facts there came unknown ones of the made; all of them, or at least so many that those that didn't come are no candidates.
pub record Collects (k : Knowledge) (made old new : List Fact) : Type 0 where
  pub keeps : (x : Fact) → is_in old x ≡ true → is_in new x ≡ true
  pub only : (x : Fact) → is_in new x ≡ true → (is_in old x ≡ true) ⊎ ((is_in made x ≡ true) × (is_known k x ≡ false))
  pub all : (x : Fact) → is_in made x ≡ true → is_known k x ≡ false → (is_in new x ≡ true) ⊎ AreBefore most_candidates new x
  pub rise : IsStrictlySortedBy fact_cmp old → IsStrictlySortedBy fact_cmp new
