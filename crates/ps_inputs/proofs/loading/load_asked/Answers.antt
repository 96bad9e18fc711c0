use Rattle.ps_inputs.proofs.loading.load_asked.Goals as goal

pub returns-in-Generate : goal.returns-in-Generate
returns-in-Generate g c = rw c.in-Generate.is (c.load_generation.ensures (g.F.Files.shown c.args.files.now))
