-- What is read has a property, step by step, and what was judged so far holds of the whole domain.
use Rattle.std.proofs.Common.{◌≡◌, ℕ, zero, suc, ◌||◌, ◌&&◌, not, true, false, Bool, List, Option, Some, None, Ok, Err, option_map, refl, ap}
use Rattle.std.specs.Bool.{if◌then◌else◌}
use Rattle.std.specs.Option.{ok_or, option_map_or}
use Rattle.ps_world.specs.Names.{same_name, object}
use Rattle.ps_world.specs.Knowledge.{climbs, parent_of}
use Rattle.ps_world.specs.declared.names.Name.{Name}
use Rattle.ps_world.specs.declared.domains.Param.{Param}
use Rattle.ps_world.specs.declared.domains.Decl.{Decl}
use Rattle.ps_world.specs.declared.domains.Domain.{Domain}
use Rattle.ps_world.specs.declared.actions.ActionDef.{ActionDef}
use Rattle.ps_conditions.specs.Signs.{Forms, by_head}
use Rattle.ps_conditions.specs.Steps.{◌>>=◌}
use Rattle.ps_conditions.specs.declared.signs.Head.{Head}
use Rattle.ps_conditions.specs.declared.signs.Head.TheVariants as the
use Rattle.ps_pddl.specs.Steps.{Read, unless}
use Rattle.ps_pddl.specs.Types.{leads_to}
use Rattle.ps_pddl.specs.declared.refusals.DomainRefusal.{DomainRefusal}

-- ---- steps

-- what is read has this property, if anything is read
abbrev pub Sound : {A : Type 0} → (A → Type 0) → Read A → Type 0
Sound P (Ok x) = P x
Sound P (Err fault) = Unit {0}

pub then_sound : {A B : Type 0} (P : A → Type 0) (Q : B → Type 0) (read : Read A) (f : A → Read B) → Sound P read → ((x : A) → P x → Sound Q (f x)) → Sound Q (read >>= f)
then_sound P Q (Ok x) f h k = k x h
then_sound P Q (Err fault) f h k = tt

-- what has one property has another
pub also_sound : {A : Type 0} (P Q : A → Type 0) (read : Read A) → Sound P read → ((x : A) → P x → Q x) → Sound Q read
also_sound P Q (Ok x) h k = k x h
also_sound P Q (Err fault) h k = tt

pub both_sound : {A : Type 0} (P Q : A → Type 0) (read : Read A) → Sound P read → Sound Q read → Sound (λ x. P x × Q x) read
both_sound P Q (Ok x) h k = (h, k)
both_sound P Q (Err fault) h k = tt

-- what has a property at each of these has them all
pub each_sound : {A B : Type 0} (P : B → A → Type 0) (read : Read A) → ((y : B) → Sound (P y) read) → Sound (λ x. (y : B) → P y x) read
each_sound P (Ok x) h = h
each_sound P (Err fault) h = tt

pub either_sound : {A : Type 0} (P : A → Type 0) (b : Bool) (x y : Read A) → (b ≡ true → Sound P x) → (b ≡ false → Sound P y) → Sound P (if b then x else y)
either_sound P true x y h k = h refl
either_sound P false x y h k = k refl

pub unless_sound : {A : Type 0} (P : A → Type 0) (b c : Bool) (one other : DomainRefusal) (read : Read A) → (b ≡ false → c ≡ false → Sound P read) → Sound P (unless (if b then Some one else (if c then Some other else None)) read)
unless_sound P true c one other read h = tt
unless_sound P false true one other read h = tt
unless_sound P false false one other read h = h refl refl

-- what is read for each form has this property
pub by_head_sound : {A : Type 0} (P : A → Type 0) (h : Head) (forms : Forms (Read A)) → Sound P forms.all → Sound P forms.any → Sound P forms.no → Sound P forms.implied → Sound P forms.for_some → Sound P forms.for_all → Sound P forms.plain → Sound P (by_head h forms)
by_head_sound P the.All forms all any deny implied some each plain = all
by_head_sound P the.Any forms all any deny implied some each plain = any
by_head_sound P the.No forms all any deny implied some each plain = deny
by_head_sound P the.Implied forms all any deny implied some each plain = implied
by_head_sound P the.ForSome forms all any deny implied some each plain = some
by_head_sound P the.ForAll forms all any deny implied some each plain = each
by_head_sound P the.Plain forms all any deny implied some each plain = plain

-- what is there has this property, if anything is there
abbrev pub Fits : {A : Type 0} → (A → Type 0) → Option A → Type 0
Fits P (Some x) = P x
Fits P None = Unit {0}

pub made_fits : {A B : Type 0} (P : B → Type 0) (f : A → B) (o : Option A) → ((x : A) → o ≡ Some x → P (f x)) → Fits P (option_map f o)
made_fits P f None h = tt
made_fits P f (Some x) h = h x refl

pub found_sound : {A : Type 0} (P : A → Type 0) (o : Option A) (fault : DomainRefusal) → Fits P o → Sound P (ok_or o fault)
found_sound P None fault h = tt
found_sound P (Some x) fault h = h

-- ---- the whole domain

-- the domain with all that is declared after its types
abbrev pub whole : Domain → List Param → List Decl → List Decl → List ActionDef → Domain
whole d constants predicates functions actions = record {
  name = d.name;
  types = d.types;
  constants = constants;
  predicates = predicates;
  functions = functions;
  actions = actions;
}

module _ (d : Domain) (cs : List Param) (ps fs : List Decl) (acts : List ActionDef) where
  climbs_on : (n : ℕ) (low high : Name) (o : Option Name) → ((parent : Name) → climbs n (whole d cs ps fs acts) parent high ≡ climbs n d parent high) → (same_name low high || option_map_or (λ parent. climbs n (whole d cs ps fs acts) parent high) o false) ≡ (same_name low high || option_map_or (λ parent. climbs n d parent high) o false)
  climbs_on n low high None ih = refl
  climbs_on n low high (Some parent) ih = ap (λ b. same_name low high || b) (ih parent)

  pub climbs_whole : (n : ℕ) (low high : Name) → climbs n (whole d cs ps fs acts) low high ≡ climbs n d low high
  climbs_whole zero low high = refl
  climbs_whole (suc n) low high = climbs_on n low high (parent_of d low) (λ parent. climbs_whole n parent high)

  leads_on : (n : ℕ) (from goal : Name) (o : Option Name) → ((parent : Name) → leads_to n (whole d cs ps fs acts) parent goal ≡ leads_to n d parent goal) → (same_name from goal || (not (same_name from object) && option_map_or (λ parent. leads_to n (whole d cs ps fs acts) parent goal) o false)) ≡ (same_name from goal || (not (same_name from object) && option_map_or (λ parent. leads_to n d parent goal) o false))
  leads_on n from goal None ih = refl
  leads_on n from goal (Some parent) ih = ap (λ b. same_name from goal || (not (same_name from object) && b)) (ih parent)

  pub leads_whole : (n : ℕ) (from goal : Name) → leads_to n (whole d cs ps fs acts) from goal ≡ leads_to n d from goal
  leads_whole zero from goal = refl
  leads_whole (suc n) from goal = leads_on n from goal (parent_of d from) (λ parent. leads_whole n parent goal)
