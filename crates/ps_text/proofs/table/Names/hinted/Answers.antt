use Rattle.std.proofs.Common.{◌≡◌, ◌<◌, ◌∙◌, ap, arith, length, map, subst, sym}
use Rattle.ps_world.specs.Lines.{same_text}
use Rattle.ps_text.specs.Names.{AreNames, folded, interned, place_of}
use Rattle.ps_text.proofs.Tables.{interned-held, place_of-held}
use Rattle.ps_text.proofs.table.Names.hinted.Goals as goal

pub returns-then-is_same-clause-ok : goal.returns-then-is_same-clause-ok
returns-then-is_same-clause-ok c =
    let there = c.in_ok-known.ensures.lookup in
    let within : c.in_ok-name.name.0 < length c.as_slice.result.now = omega arith in
    let keys = c.as_slice.ensures.keys ∙ ap (λ s. s.set.keys) c.deref-2.ensures in
    let names = subst (λ ks. AreNames (map (λ v. v.items) ks)) (sym keys) c.self.invariant in
    let is = ap (same_text c.args.text.now) (sym c.as_slice-2.ensures.value) ∙ sym c.is_same.ensures ∙ c.if-is_same.true in
    place_of-held (λ v. v.items) c.as_slice.result.now c.args.text.now c.in_ok-name.name.0 c.in_ok-known.known.now names within there.1 is
    ∙ ap (λ ks. place_of (map (λ v. v.items) ks) (folded c.args.text.now)) keys
    ∙ ap (λ t. place_of t (folded c.args.text.now)) c.self.view_is

pub returns-then-is_same-clause-table : goal.returns-then-is_same-clause-table
returns-then-is_same-clause-table c =
    let there = c.in_ok-known.ensures.lookup in
    let within : c.in_ok-name.name.0 < length c.as_slice.result.now = omega arith in
    let keys = c.as_slice.ensures.keys ∙ ap (λ s. s.set.keys) c.deref-2.ensures in
    let names = subst (λ ks. AreNames (map (λ v. v.items) ks)) (sym keys) c.self.invariant in
    let is = ap (same_text c.args.text.now) (sym c.as_slice-2.ensures.value) ∙ sym c.is_same.ensures ∙ c.if-is_same.true in
    let same = interned-held (λ v. v.items) c.as_slice.result.now c.args.text.now c.in_ok-name.name.0 c.in_ok-known.known.now names within there.1 is in
    subst (λ t. t ≡ interned t (folded c.args.text.now)) (ap (map (λ v. v.items)) keys ∙ c.self.view_is) same
