-- A frame that was read has no more bytes than the buffer.
use Rattle.test_files.proofs.frame.Goals as goal

pub slice_bounds-list-end : goal.slice_bounds-list-end
slice_bounds-list-end g c = (c.in_ok-frame.ensures.frame c.in-Bytes.n c.in-Bytes.is).0
