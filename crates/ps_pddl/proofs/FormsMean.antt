-- The nested lists of a domain's canonical text mean the domain.
use Rattle.std.proofs.Common.{◌≡◌, true, false, List, [], Ok, refl, ap, ◌∙◌}
use Rattle.ps_world.specs.Names.{Table}
use Rattle.ps_world.specs.declared.actions.ActionDef.{ActionDef}
use Rattle.ps_world.specs.declared.domains.Decl.{Decl}
use Rattle.ps_world.specs.declared.domains.Domain.{Domain}
use Rattle.ps_grammar.specs.Marks.{is}
use Rattle.ps_grammar.specs.declared.marks.Mark.{Mark}
use Rattle.ps_grammar.specs.declared.marks.Mark.TheVariants as mark
use Rattle.ps_lists.specs.Nested.{Nesteds, none}
use Rattle.ps_lists.specs.Places.{section}
use Rattle.ps_pddl.specs.Meaning as meaning
use Rattle.ps_pddl.specs.Meaning.{domain_of}
use Rattle.ps_pddl.specs.WellFormed.{AreDeclared, IsWellFormed}
use Rattle.ps_pddl.specs.declared.meaning.lists.Listing.TheVariants.{Constants}
use Rattle.ps_pddl.specs.declared.refusals.Cap.TheVariants as cap
use Rattle.ps_pddl.proofs.CanonicalForms.{joined, AreForms, no_items, more_items, AreTypedForms, IsDeclForm, IsActionForm, action_form, IsSectionForm, no_section, AreSectionForms, sections, IsDomainForm, domain_form}
use Rattle.ps_pddl.proofs.CanonicalForms as form
use Rattle.ps_pddl.proofs.Fits.{FitsDomain}
use Rattle.ps_pddl.proofs.MeanActions.{all_declared-mean, actions-mean}
use Rattle.ps_pddl.proofs.MeanConditions.{HaveHeads}
use Rattle.ps_pddl.proofs.MeanLists.{typed_listed, listed-means}
use Rattle.ps_pddl.proofs.MeanTerms.{TakeFew}
use Rattle.ps_pddl.proofs.MeanTypes.{types-mean}
use Rattle.ps_pddl.proofs.Sound.{whole}

-- ---- the sections

-- no section is an action
section-actions : (names : Table) (key : Mark) (acts : List ActionDef) (ts : Nesteds) → is key mark.DurativeAction ≡ false → AreForms (IsActionForm names) acts ts → section key ts ≡ none
section-actions names key _ _ e no_items = refl
section-actions names key _ _ e (more_items a acts _ ts (action_form _ k n p u f q c g h i ps cs es x m w pm pw um em qm xw cm fm cw gm im ew) left) =
    rw (m, e, section-actions names key acts ts e left) refl

-- a section with another keyword is passed over
section-other : (key other : Mark) (ts us left : Nesteds) → is key other ≡ false → IsSectionForm other ts us → section key (joined us left) ≡ section key left
section-other key other _ _ left e no_section = refl
section-other key other _ _ left e (form.section k t ts m) = rw (m, e) refl

-- a section's forms follow its keyword
section-own : (key : Mark) (ts us left : Nesteds) → is key key ≡ true → section key left ≡ none → IsSectionForm key ts us → section key (joined us left) ≡ ts
section-own key _ _ left e h no_section = h
section-own key _ _ left e h (form.section k t ts m) = rw (m, e) refl

-- no action is a section
actions-section : (d : Domain) (key : Mark) (ts us left : Nesteds) (before : List ActionDef) → is mark.DurativeAction key ≡ false → IsSectionForm key ts us → meaning.actions d (joined us left) before ≡ meaning.actions d left before
actions-section d key _ _ left before e no_section = refl
actions-section d key _ _ left before e (form.section k t ts m) = rw (m, e) refl

-- ---- the domain

few-params : (d : Domain) (decls : List Decl) → AreDeclared d decls → TakeFew decls
few-params d decls h k x lt = (h.params k x lt).few

module _ (names : Table) (d : Domain) (fits : FitsDomain names d) (h : IsWellFormed d) where
  constants-mean : (ts : Nesteds) → AreTypedForms names d.constants ts → meaning.with_constants (whole d [] [] [] []) ts ≡ Ok (whole d d.constants [] [] [])
  constants-mean ts words =
      rw (listed-means (whole d [] [] [] []) Constants d.constants [] ts h.constants.few h.constants.apart h.constants.kinds (typed_listed names d.constants ts words)) refl

  predicates-mean : (ts : Nesteds) → AreForms (IsDeclForm names) d.predicates ts → meaning.with_predicates (whole d d.constants [] [] []) ts ≡ Ok (whole d d.constants d.predicates [] [])
  predicates-mean ts words =
      rw (all_declared-mean names d d.constants [] [] [] cap.Predicates d.predicates [] ts h.predicates.few h.predicates.apart h.predicates.params words) refl

  functions-mean : (ts : Nesteds) → AreForms (IsDeclForm names) d.functions ts → meaning.with_functions (whole d d.constants d.predicates [] []) ts ≡ Ok (whole d d.constants d.predicates d.functions [])
  functions-mean ts words =
      rw (all_declared-mean names d d.constants d.predicates [] [] cap.Functions d.functions [] ts h.functions.few h.functions.apart h.functions.params words) refl

  heads : HaveHeads names d.predicates
  heads k x lt = (fits.predicates k x lt).head

  all_actions-mean : (ts : Nesteds) → AreForms (IsActionForm names) d.actions ts → meaning.actions (whole d d.constants d.predicates d.functions []) ts [] ≡ Ok d.actions
  all_actions-mean ts words =
      actions-mean names d [] (few-params d d.predicates h.predicates) (few-params d d.functions h.functions) heads d.actions [] ts h.few_actions h.actions_apart h.actions words

  sections-mean : (ts : Nesteds) → AreSectionForms names d ts → meaning.with_sections (meaning.bare d.name) ts ≡ Ok d
  sections-mean _ (sections ts cs ps fs acts types constants predicates functions tw t cw c pw p fw f aw) =
      let after_predicates : Nesteds = joined functions acts in
      let after_constants : Nesteds = joined predicates after_predicates in
      let after_types : Nesteds = joined constants after_constants in
      let types_there =
      section-own mark.Types ts types after_types refl
      (section-other mark.Types mark.Constants cs constants after_constants refl c
      ∙ (section-other mark.Types mark.Predicates ps predicates after_predicates refl p
      ∙ (section-other mark.Types mark.Functions fs functions acts refl f
      ∙ section-actions names mark.Types d.actions acts refl aw)))
      t in
      let constants_there =
      section-other mark.Constants mark.Types ts types after_types refl t
      ∙ section-own mark.Constants cs constants after_constants refl
      (section-other mark.Constants mark.Predicates ps predicates after_predicates refl p
      ∙ (section-other mark.Constants mark.Functions fs functions acts refl f
      ∙ section-actions names mark.Constants d.actions acts refl aw))
      c in
      let predicates_there =
      section-other mark.Predicates mark.Types ts types after_types refl t
      ∙ (section-other mark.Predicates mark.Constants cs constants after_constants refl c
      ∙ section-own mark.Predicates ps predicates after_predicates refl
      (section-other mark.Predicates mark.Functions fs functions acts refl f
      ∙ section-actions names mark.Predicates d.actions acts refl aw)
      p) in
      let functions_there =
      section-other mark.Functions mark.Types ts types after_types refl t
      ∙ (section-other mark.Functions mark.Constants cs constants after_constants refl c
      ∙ (section-other mark.Functions mark.Predicates ps predicates after_predicates refl p
      ∙ section-own mark.Functions fs functions acts refl (section-actions names mark.Functions d.actions acts refl aw) f)) in
      let before_actions : Domain = whole d d.constants d.predicates d.functions [] in
      let actions_there =
      actions-section before_actions mark.Types ts types after_types [] refl t
      ∙ (actions-section before_actions mark.Constants cs constants after_constants [] refl c
      ∙ (actions-section before_actions mark.Predicates ps predicates after_predicates [] refl p
      ∙ (actions-section before_actions mark.Functions fs functions acts [] refl f
      ∙ all_actions-mean acts aw))) in
      rw (types_there, types-mean d ts h.types h.no_cycle (typed_listed names d.types ts tw), constants_there, constants-mean cs cw, predicates_there, predicates-mean ps pw, functions_there, functions-mean fs fw, actions_there) refl

pub forms_mean : (names : Table) (d : Domain) (ts : Nesteds) → FitsDomain names d → IsWellFormed d → IsDomainForm names d ts → domain_of ts ≡ Ok d
unfolding domain_of
forms_mean names d _ fits h (domain_form k m n ts e v w words) = ap (λ name. meaning.with_sections (meaning.bare name) ts) w.name ∙ sections-mean names d fits h ts words
