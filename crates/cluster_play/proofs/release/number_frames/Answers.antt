use Rattle.std.proofs.Common.{◌≡◌, length, ap, sym, ◌∙◌, append_assoc, length-append, ◌++◌, ◌∷◌, [], ◌+◌}
use Rattle.cluster_play.specs.Runs.{frame_lines}
use Rattle.cluster_play.proofs.Lined.{frame_lines_more}
use Rattle.cluster_play.proofs.release.number_frames.Goals as goal

pub loop-frame-preserved : goal.loop-frame-preserved
loop-frame-preserved c =
    let f = c.in-Some.frame in
    let first = c.args.frames.now.items in
    let so_far = c.loop-frame.yielded in
    let here = c.in_ok-number_frame.ensures in
    let i = c.loop-frame.invariant in
    let given : length c.loop-frame.frames.items ≡ length first + length so_far = ap length i.frames ∙ length-append first so_far in
    record {
      lines =
          here.lines ∙ ap (λ ls. ls ++ frame_lines (length c.loop-frame.frames.items) (f ∷ [])) i.lines
          ∙ append_assoc c.args.lines.now.items (frame_lines (length first) so_far) (frame_lines (length c.loop-frame.frames.items) (f ∷ []))
          ∙ ap (λ ls. c.args.lines.now.items ++ ls) (sym (frame_lines_more (length first) (length c.loop-frame.frames.items) so_far f given));
      frames = here.frames ∙ ap (λ fs. fs ++ f ∷ []) i.frames ∙ append_assoc first so_far (f ∷ []);
    }
