use Rattle.serve_command.proofs.serving.run_workers.Goals as goal

pub run-requires-sync-C : goal.run-requires-sync-C
run-requires-sync-C g c κs within = record { shared = c.server_is_shared.ensures.shared }
