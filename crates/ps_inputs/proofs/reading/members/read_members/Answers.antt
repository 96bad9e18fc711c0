use Rattle.std.proofs.Common.{◌∙◌, refl, arith}
use Rattle.std.proofs.lemmas.Result.{err_from_is_err_and}
use Rattle.ps_inputs.proofs.MemberTexts.{member_read, member_starved, member_unread, members_read}
use Rattle.ps_inputs.proofs.reading.members.read_members.Goals as goal

pub returns-in_err-text : goal.returns-in_err-text
returns-in_err-text g c =
    let p = err_from_is_err_and c.from_residual.result c.from_residual.ensures.1 in
    rw (p.1, p.2)
    (member_unread c.args.members.now c.loop-member.member-index _ _ (omega arith) refl (g.F.Files.shown c.args.files.now) (g.F.Files.shown c.loop-member.files) c.loop-member.texts.items c.loop-member.invariant
    (g.F.Files.shown c.read_text.new.files) c.in_err-text.field-0.0 c.in_err-text.ensures.reads)

pub returns-in_err-file : goal.returns-in_err-file
returns-in_err-file g c =
    let p = err_from_is_err_and c.from_residual-in_err-file.result c.from_residual-in_err-file.ensures.1 in
    rw (p.1, p.2)
    (member_starved c.args.members.now c.loop-member.member-index _ _ (omega arith) refl (g.F.Files.shown c.args.files.now) (g.F.Files.shown c.loop-member.files) c.loop-member.texts.items c.loop-member.invariant
    (g.F.Files.shown c.read_text.new.files) c.in_ok-text.text c.in_ok-text.ensures.reads)

pub returns-in_err-push : goal.returns-in_err-push
returns-in_err-push g c =
    let p = err_from_is_err_and c.from_residual-in_err-push.result c.from_residual-in_err-push.ensures.1 in
    rw (p.1, p.2)
    (member_starved c.args.members.now c.loop-member.member-index _ _ (omega arith) refl (g.F.Files.shown c.args.files.now) (g.F.Files.shown c.loop-member.files) c.loop-member.texts.items c.loop-member.invariant
    (g.F.Files.shown c.read_text.new.files) c.in_ok-text.text c.in_ok-text.ensures.reads)

pub loop-member-preserved : goal.loop-member-preserved
loop-member-preserved g c =
    member_read c.args.members.now c.loop-member.member-index _ _ (omega arith) refl (g.F.Files.shown c.args.files.now) (g.F.Files.shown c.loop-member.files) c.loop-member.texts.items c.loop-member.invariant
    (g.F.Files.shown c.read_text.new.files) (record { file = c.in_ok-file.file; text = c.in_ok-text.text }) c.in_ok-text.text c.push.new.self.items (c.in_ok-file.ensures.items ∙ c.as_bytes.ensures.value) refl c.in_ok-push.ensures.items c.in_ok-text.ensures.reads

pub returns : goal.returns
returns g c =
    members_read c.args.members.now c.loop-member.member-index (g.F.Files.shown c.args.files.now) (g.F.Files.shown c.loop-member.files) c.loop-member.texts (omega arith) c.loop-member.invariant
