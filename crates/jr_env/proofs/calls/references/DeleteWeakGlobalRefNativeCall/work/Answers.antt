use Rattle.jr_env.proofs.calls.references.DeleteWeakGlobalRefNativeCall.work.Goals as goal

pub returns-clause-call : goal.returns-clause-call
returns-clause-call g c = c.delete_reference.ensures c.args._frames.now.frames
