use Rattle.shell_main.proofs.serving.shell_by.Given as goal

abbrev pub ghost-serve : goal.ghost-serve
ghost-serve g a = (g.S.Source.left a.reader.now, g.W.Sink.taken a.writer.now)
