-- A frame that was read has no more bytes than the buffer.
use Rattle.test_texts.proofs.frame.Goals as goal

pub slice_bounds-call_frame-end : goal.slice_bounds-call_frame-end
slice_bounds-call_frame-end g c = (c.in_ok-read_frame.ensures.frame c.in-Bytes.n c.in-Bytes.is).0
