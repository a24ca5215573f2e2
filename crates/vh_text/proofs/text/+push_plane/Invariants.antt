use Rattle.vh_text.proofs.text.+push_plane.Given as goal

abbrev pub decreases-push_plane : goal.decreases-push_plane
decreases-push_plane l = l.plane
