use Rattle.std.proofs.Common.{sym}
use Rattle.ps_shows.specs.Shows.Shows.{picture}
use Rattle.ps_shows.proofs.showing.show.Goals as goal

pub returns-in-Some : goal.returns-in-Some
returns-in-Some g c = picture c.in-Some.form c.in-Some.file.now (sym c.in-Some.ensures) c.show_picture.ensures
